-- What the parts of the code do that a step of a player is put together from.
use Rattle.std.specs.Prelude.{ℕ, ◌+◌, ◌-◌, ◌&&◌, ◌||◌, if◌then◌else◌, ◌==◌}
use Rattle.strip.specs.declared.work.RowWork.{RowWork}

-- a row is sampled: its work begins anew
abbrev pub renewed : RowWork → RowWork
renewed w = record w { left = w.work }

-- row k + 1 after the samples of a slot that names a row
abbrev pub sampled : (place row k : ℕ) → RowWork → RowWork
sampled place row k w =
    record w {
      left = if place == 0 || (row == k + 1 && w.left == 0) then w.work else w.left;
    }

-- row k + 1 once the row that is named has run for a slot
abbrev pub worked : (row k : ℕ) → RowWork → RowWork
worked row k w = record w { left = w.left - (if row == k + 1 then 1 else 0) }
