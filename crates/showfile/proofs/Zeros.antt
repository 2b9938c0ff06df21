-- Bytes that are all 0, and bytes with zeros behind them.
use Rattle.std.proofs.Common.{◌≡◌, ℕ, zero, suc, ◌+◌, ◌-◌, ◌≤◌, true, eqb, List, [], ◌∷◌, ◌++◌, length, take, drop, replicate, append_assoc, append-nil, refl, sym, ap, ap₂, ◌∙◌, inl, inr, arith}
use Rattle.std.proofs.lemmas.Bool.{and_from, and_parts, cases_lt, eqb-true}
use Rattle.std.proofs.lemmas.List.{drop_all, length-append, length-drop, length-replicate, length-take, replicate-append-replicate, take-append-drop, take_all}
use Rattle.std.proofs.lemmas.List.Elements.{All-append, All-replicate}
use Rattle.std.proofs.lemmas.List.Folds.{list_all-append}
use Rattle.showfile.specs.Blocks.{padded}
use Rattle.showfile.specs.Tests.{are_zero}
use Rattle.showfile.proofs.Bytes.{AreBytes, IsByte}

-- bytes that are all 0 are zeros, as many as they are
zeros : (xs : List ℕ) → are_zero xs ≡ true → xs ≡ replicate (length xs) 0
zeros [] h = refl
zeros (x ∷ xs) h = let both = and_parts _ _ h in ap₂ ◌∷◌ (eqb-true _ _ both.0) (zeros xs both.1)

-- and zeros are all 0
pub zeros_again : (n : ℕ) → are_zero (replicate n 0) ≡ true
zeros_again zero = refl
zeros_again (suc n) = zeros_again n

-- two lists that are zero in one are zero each
pub both_zero : (xs ys : List ℕ) → are_zero (xs ++ ys) ≡ true → (are_zero xs ≡ true) × (are_zero ys ≡ true)
both_zero xs ys h = and_parts _ _ (sym (list_all-append (λ b. eqb b 0) xs ys) ∙ h)

-- and in one where each is
pub zero_in_one : (xs ys : List ℕ) → are_zero xs ≡ true → are_zero ys ≡ true → are_zero (xs ++ ys) ≡ true
zero_in_one xs ys f g = list_all-append (λ b. eqb b 0) xs ys ∙ and_from _ _ f g

-- bytes with zeros up to n bytes are n bytes
pub length_padded : (n : ℕ) (bytes : List ℕ) → length bytes ≤ n → length (padded n bytes) ≡ n
length_padded n bytes h =
    let zeros = n - length bytes in
    omega (arith, length-append bytes (replicate zeros 0), length-replicate {A = ℕ} zeros 0)

-- and are bytes
pub padded_bytes : (n : ℕ) (bytes : List ℕ) → AreBytes bytes → AreBytes (padded n bytes)
padded_bytes n bytes h =
    let zeros = n - length bytes in
    All-append IsByte bytes (replicate zeros 0) h (All-replicate IsByte zeros 0 (omega arith))

-- what is long enough gets no zeros
padded_full : (n : ℕ) (xs : List ℕ) → n ≤ length xs → padded n xs ≡ xs
padded_full n xs h = let none : n - length xs ≡ 0 = omega arith in rw none (append-nil xs)

-- zeros behind the rest are those behind the whole
pub padded_behind : (n : ℕ) (front rest : List ℕ) → front ++ padded n rest ≡ padded (length front + n) (front ++ rest)
padded_behind n front rest =
    let same : length front + n - length (front ++ rest) ≡ n - length rest = omega (arith, length-append front rest) in
    rw (same, append_assoc front rest (replicate (n - length rest) 0)) refl

-- zeros behind zeros are so many more
padded_more : (m n : ℕ) (xs : List ℕ) → length xs ≤ m → padded m xs ++ padded n [] ≡ padded (m + n) xs
padded_more m n xs h =
    let a = m - length xs in
    let b = n - 0 in
    let all : a + b ≡ m + n - length xs = omega arith in
    rw (append_assoc xs (replicate a 0) (replicate b 0), replicate-append-replicate {A = ℕ} a b 0, all)

-- a first part and the rest, each with zeros behind it, are the whole with zeros behind it
pub padded_on : (m n : ℕ) (xs : List ℕ) → padded m (take m xs) ++ padded n (drop m xs) ≡ padded (m + n) xs
padded_on m n xs =
    elim (cases_lt m (length xs)) [
      | inl longer ↦
          let long : length (take m xs) ≡ m = omega (arith, length-take m xs) in
          let behind = padded_behind n (take m xs) (drop m xs) in
          rw (padded_full m (take m xs) (omega arith)) (behind ∙ rw (long, take-append-drop m xs) refl)
      | inr fits ↦ rw (take_all m xs fits, drop_all m xs fits) (padded_more m n xs fits)
    ]

-- w bytes that are zero behind the first n are those n with zeros behind them
pub padded_told : (w n : ℕ) (xs : List ℕ) → length xs ≡ w → are_zero (drop n xs) ≡ true → xs ≡ padded w (take n xs)
padded_told w n xs h rest =
    let size : length (drop n xs) ≡ w - length (take n xs) = omega (arith, length-drop n xs, length-take n xs) in
    let behind : drop n xs ≡ replicate (w - length (take n xs)) 0 = zeros (drop n xs) rest ∙ ap (λ (m : ℕ). replicate m 0) size in
    sym (take-append-drop n xs) ∙ ap (λ (r : List ℕ). take n xs ++ r) behind
