-- What it means that a course is accepted for a list of readings.
use Rattle.std.specs.Prelude.{◌≡◌, ℕ, EachIndex, List, map, None, slice_index}
use Rattle.readings.specs.Lists.{rows_of}
use Rattle.readings.specs.declared.list.Readings.{Readings}
use Rattle.policy.specs.Course.{Course}
use Rattle.books.specs.Rows.{come_on}
use Rattle.books.specs.Slots.{fault_at}
use Rattle.books.specs.declared.row.Row.{Row}
use Rattle.walk.specs.Finishes.{FirstFinish}

-- the rows of new books for a list: all come on
abbrev pub new_rows : Readings → List Row
new_rows l = map come_on (rows_of l)

-- accepted means for ever: along this course, with new books, no slot has a fault, and each row has
-- a first finish
pub record Accepts (c : Course) (rs : List Row) (finishes : List ℕ) : Type 0 where
  pub faultless : (n : ℕ) → fault_at c rs n ≡ None
  pub finish : EachIndex rs (λ k. FirstFinish c rs k (slice_index finishes k))
