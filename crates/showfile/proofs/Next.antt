-- The next bytes from a place on.
use Rattle.std.proofs.Common.{◌≡◌, ℕ, zero, suc, ◌+◌, ◌<◌, ◌≤◌, List, [], ◌∷◌, ◌++◌, length, take, drop, refl, sym, ap, ◌∙◌, arith}
use Rattle.std.specs.Int.{to_be_bytes, w16}
use Rattle.std.proofs.lemmas.List.{drop-drop, drop-take, length-drop, length-take-le}
use Rattle.std.proofs.lemmas.List.Elements.{All-drop, All-take}
use Rattle.std.proofs.lemmas.Nat.{be_bytes_2}
use Rattle.std.proofs.Math.Seq.{take-add}
use Rattle.showfile.specs.Told.{byte_at, number_at}
use Rattle.showfile.proofs.Bytes.{AreBytes, IsByte, told_again}

-- the next n are n, where there are so many
pub next_length : (i n : ℕ) (xs : List ℕ) → i + n ≤ length xs → length (take n (drop i xs)) ≡ n
next_length i n xs h = length-take-le n (drop i xs) (omega (arith, length-drop i xs))

-- the next m + n are the next m, with the n behind them
pub next_two : (i m n : ℕ) (xs : List ℕ) → take (m + n) (drop i xs) ≡ take m (drop i xs) ++ take n (drop (i + m) xs)
next_two i m n xs = take-add m n (drop i xs) ∙ ap (λ (r : List ℕ). take m (drop i xs) ++ take n r) (drop-drop m i xs)

-- without the first m of them they are those n
pub next_behind : (i m n : ℕ) (xs : List ℕ) → drop m (take (m + n) (drop i xs)) ≡ take n (drop (i + m) xs)
next_behind i m n xs = drop-take m n (drop i xs) ∙ ap (take n) (drop-drop m i xs)

-- the next byte is the one at the place
pub byte_next : (i : ℕ) (xs : List ℕ) → i < length xs → take 1 (drop i xs) ≡ byte_at i xs ∷ []
byte_next zero [] h = absurd (omega arith)
byte_next zero (x ∷ xs) h = refl
byte_next (suc i) [] h = absurd (omega arith)
byte_next (suc i) (x ∷ xs) h = byte_next i xs (omega arith)

-- the next two are those of the number at the place
pub number_next : (i : ℕ) (xs : List ℕ) → AreBytes xs → i + 2 ≤ length xs → take 2 (drop i xs) ≡ to_be_bytes w16 (number_at i xs)
number_next i xs bytes h =
    let two = take 2 (drop i xs) in
    let each = told_again two (All-take IsByte 2 (drop i xs) (All-drop IsByte i xs bytes)) in
    sym (be_bytes_2 two _ (next_length i 2 xs h) each refl)
