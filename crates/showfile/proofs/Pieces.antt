-- Bytes cut into pieces of one length, and such pieces joined.
use Rattle.std.proofs.Common.{◌≡◌, ℕ, zero, suc, ◌+◌, ◌*◌, ◌≤◌, All, List, [], ◌∷◌, ◌++◌, length, map, take, drop, append_assoc, refl, sym, ap, ap₂, ◌∙◌, arith}
use Rattle.std.specs.List.{flat_map}
use Rattle.std.specs.Simd.{first_chunks}
use Rattle.std.proofs.lemmas.List.{drop_at, length-append, length-drop, length-take-le, take_at}
use Rattle.std.proofs.lemmas.List.Elements.{All-drop, All-head, All-tail, All-take}
use Rattle.std.proofs.Math.Seq.{take-add}
use Rattle.showfile.proofs.Bytes.{AreBytes, IsByte}

-- k pieces are k
pub pieces_length : (n k : ℕ) (xs : List ℕ) → length (first_chunks n k xs) ≡ k
pieces_length n zero xs = refl
pieces_length n (suc k) xs = ap suc (pieces_length n k (drop n xs))

-- the first m pieces of k are m pieces
pub fewer : (n m k : ℕ) (xs : List ℕ) → m ≤ k → take m (first_chunks n k xs) ≡ first_chunks n m xs
fewer n zero k xs le = refl
fewer n (suc m) zero xs le = absurd (omega arith)
fewer n (suc m) (suc k) xs le = ap (λ ys. take n xs ∷ ys) (fewer n m k (drop n xs) (omega arith))

-- where f leaves each piece as it is, they are the bytes that were cut
pub pieces_joined : (n : ℕ) (f : List ℕ → List ℕ) → ((x : List ℕ) → length x ≡ n → AreBytes x → f x ≡ x)
    → (k : ℕ) (xs : List ℕ) → AreBytes xs → k * n ≤ length xs → flat_map f (first_chunks n k xs) ≡ take (k * n) xs
pieces_joined n f same zero xs bytes h = let none : zero * n ≡ 0 = omega arith in rw none refl
pieces_joined n f same (suc k) xs bytes h =
    let more : suc k * n ≡ n + k * n = omega arith in
    let first = same (take n xs) (length-take-le n xs (omega arith)) (All-take IsByte n xs bytes) in
    let rest = pieces_joined n f same k (drop n xs) (All-drop IsByte n xs bytes) (omega (arith, length-drop n xs)) in
    rw more (ap₂ ◌++◌ first rest ∙ sym (take-add n (k * n) xs))

module _ {X : Type 0} (f : X → List ℕ) (n : ℕ) where
  -- f makes n bytes of an element
  abbrev pub HasLength : X → Type 0
  HasLength x = length (f x) ≡ n

  -- joined they are as long as so many of them
  pub length_joined : (xs : List X) → All HasLength xs → length (flat_map f xs) ≡ n * length xs
  length_joined [] h = omega arith
  length_joined (x ∷ xs) h =
      omega (arith, length-append (f x) (flat_map f xs), All-head HasLength x xs h, length_joined xs (All-tail HasLength x xs h))

  -- and they are found again, cut one by one from the front
  pub cut_again : (xs : List X) (rest : List ℕ) → All HasLength xs → first_chunks n (length xs) (flat_map f xs ++ rest) ≡ map f xs
  cut_again [] rest h = refl
  cut_again (x ∷ xs) rest h =
      let long = All-head HasLength x xs h in
      let others = flat_map f xs ++ rest in
      let more = cut_again xs rest (All-tail HasLength x xs h) in
      rw (append_assoc (f x) (flat_map f xs) rest, take_at (f x) others n long, drop_at (f x) others n long, more)
