-- Decimal numbers of 1 to 5 digits, at most 65,535.
use Rattle.std.specs.Prelude.{ℕ, ◌+◌, ◌-◌, ◌*◌, if◌then◌else◌, ◌&&◌, List, [], ◌∷◌, length, Some, None, Option, nat_le}
use Rattle.std.specs.Char.{is_ascii_digit}

-- the value of digits read on from n; none where a byte is no digit
abbrev pub decimal : ℕ → List ℕ → Option ℕ
decimal n [] = Some n
decimal n (b ∷ bs) = if is_ascii_digit b then decimal (n * 10 + (b - 48)) bs else None

-- a number, where it is at most m
abbrev pub number_up_to : ℕ → Option ℕ → Option ℕ
number_up_to m None = None
number_up_to m (Some n) = if nat_le n m then Some n else None

-- the value of 1 to 5 digits, leading zeros among them, of at most 65,535; none of anything else
abbrev pub numeral : List ℕ → Option ℕ
numeral bs =
    if nat_le 1 (length bs) && nat_le (length bs) 5 then number_up_to 65535 (decimal 0 bs)
    else None
