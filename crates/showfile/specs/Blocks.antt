-- The blocks of a show file, as they are spelled: 512 bytes each, numbers with the high byte first.
use Rattle.std.specs.Int.{to_be_bytes, w16, w32}
use Rattle.std.specs.Prelude.{ℕ, ◌+◌, ◌-◌, ◌*◌, List, [], ◌∷◌, ◌++◌, length, replicate}

-- bytes, and zeros behind them up to n bytes
abbrev pub padded : (n : ℕ) → List ℕ → List ℕ
padded n bytes = bytes ++ replicate (n - length bytes) 0

-- the sum of bytes, each times its place; the first has this place
abbrev pub sum_from : (place : ℕ) → List ℕ → ℕ
sum_from place [] = 0
sum_from place (b ∷ bs) = b * place + sum_from (place + 1) bs

-- bytes, and their sum behind them: the first counts once, the second twice, and so on
abbrev pub with_sum : List ℕ → List ℕ
with_sum bytes = bytes ++ to_be_bytes w32 (sum_from 1 bytes)

-- a block: its kind, a byte 0, its number and its body, with zeros up to byte 508; then the sum
abbrev pub block : (kind number : ℕ) → (body : List ℕ) → List ℕ
block kind number body =
    with_sum (padded 508 (kind ∷ 0 ∷ to_be_bytes w16 number ++ body))
