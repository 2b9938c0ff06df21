-- When a crossing keeps every shared reading valid, and the test for it.
use Rattle.std.specs.Prelude.{ℕ, All, EachIndex, IfSome, List, OnSome, Some, slice_index, slice_index_or}
use Rattle.readings.specs.Ranges.{blank}
use Rattle.readings.specs.declared.reading.Reading.{Reading}
use Rattle.policy.specs.Course.{Course}
use Rattle.books.specs.Crossings.{carry, crossed}
use Rattle.books.specs.Lookups.{Idle, row_of}
use Rattle.books.specs.Slots.{books_at, judged_rows}
use Rattle.books.specs.Valid.{Valid, aged}
use Rattle.books.specs.declared.row.Row.{Row}

-- among these rows, each whose id the old books have is valid
abbrev pub SharedValid : List Row → List Row → Type 0
SharedValid old rs = All (λ r. OnSome (row_of old r.reading.id) (Valid r)) rs

-- a crossing from the old books to a list, followed by endless slots of a course, keeps every
-- shared reading valid for ever: when ages are judged in each slot, at the crossing, and at each
-- slot's end
pub record Keeps (old : List Row) (new : List Reading) (c : Course) : Type 0 where
  pub judged : (n : ℕ) → SharedValid old (judged_rows (c n) (books_at c (crossed old new) n))
  pub ends : (n : ℕ) → SharedValid old (books_at c (crossed old new) n)

-- a reading is not shared, or its row, as it comes over, stays valid up to the first finish
abbrev pub InTime : List Row → Reading → ℕ → Type 0
InTime old d finish = IfSome (row_of old d.id) (λ r. Valid (aged finish (carry d (Some r))))

-- each reading of a list, with its first finish, is in time
abbrev pub AllInTime : List Row → List Reading → List ℕ → Type 0
AllInTime old new finishes =
    EachIndex new (λ k. InTime old (slice_index_or new k blank) (slice_index finishes k))

-- the test: no job is open, and each reading of the list is in time
pub record MayCross (old : List Row) (new : List Reading) (finishes : List ℕ) : Type 0 where
  pub idle : Idle old
  pub in_time : AllInTime old new finishes
