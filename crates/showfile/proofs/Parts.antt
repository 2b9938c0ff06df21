-- A list of two parts, cut somewhere.
use Rattle.std.proofs.Common.{◌≡◌, ℕ, zero, suc, ◌-◌, min, List, [], ◌∷◌, ◌++◌, length, take, drop, append-nil, refl, sym, ap, ◌∙◌, inl, inr, arith}
use Rattle.std.proofs.lemmas.Bool.{cases_lt}
use Rattle.std.proofs.lemmas.List.{drop_all, drop_at, length-append, nil_from_length, take_all, take_at}

-- the first n are those of the first part, and then as many of the second as are left
pub take_over : (n : ℕ) (xs ys : List ℕ) → take n (xs ++ ys) ≡ take n xs ++ take (n - length (take n xs)) ys
take_over zero xs ys = refl
take_over (suc n) [] ys = let all : suc n - 0 ≡ suc n = omega arith in rw all refl
take_over (suc n) (x ∷ xs) ys =
    let left : suc n - suc (length (take n xs)) ≡ n - length (take n xs) = omega arith in
    rw left (ap (λ (r : List ℕ). x ∷ r) (take_over n xs ys))

-- behind them lies what is past them in the first part, and then in the second
pub drop_over : (n : ℕ) (xs ys : List ℕ) → drop n (xs ++ ys) ≡ drop n xs ++ drop (n - length (take n xs)) ys
drop_over zero xs ys = refl
drop_over (suc n) [] ys = let all : suc n - 0 ≡ suc n = omega arith in rw all refl
drop_over (suc n) (x ∷ xs) ys =
    let left : suc n - suc (length (take n xs)) ≡ n - length (take n xs) = omega arith in
    rw left (drop_over n xs ys)

-- where the first part is the first w, or all, it is found again, and so is the second
pub cut_there : (w : ℕ) (xs part rest : List ℕ) → xs ≡ part ++ rest → length part ≡ min w (length xs)
    → (take w xs ≡ part) × (drop w xs ≡ rest)
cut_there w xs part rest parts size =
    let sum = ap length parts ∙ length-append part rest in
    elim (cases_lt (length xs) w) [
      | inl short ↦
          let none : rest ≡ [] = nil_from_length rest (omega arith) in
          let all : xs ≡ part = parts ∙ rw none (append-nil part) in
          (take_all w xs (omega arith) ∙ all, drop_all w xs (omega arith) ∙ sym none)
      | inr long ↦
          let whole : length part ≡ w = omega arith in
          (ap (take w) parts ∙ take_at part rest w whole, ap (drop w) parts ∙ drop_at part rest w whole)
    ]
