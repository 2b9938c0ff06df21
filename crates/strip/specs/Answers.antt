-- What a strip says for a slot: the rows to sample there, and the row to run.
use Rattle.std.specs.Prelude.{ℕ, ◌-◌, ◌^◌, Bool, if◌then◌else◌, ◌==◌}

-- in slot 0 every one of n rows; later the row that the slot names, if it rests, which means that
-- it has no work left; row 0 is none
abbrev pub strip_samples : (n place row : ℕ) → (rests : Bool) → ℕ
strip_samples n place row rests =
    if place == 0 then 2 ^ n - 1
    else if row == 0 then 0
    else if rests then 2 ^ (row - 1)
    else 0
