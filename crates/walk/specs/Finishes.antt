-- The first finish of a row: the instant at which its first value goes on show.
use Rattle.std.specs.Prelude.{◌≡◌, ℕ, ◌<◌, All, Bool, true, false, if◌then◌else◌, List, length, Some, None, Option, slice_index_or}
use Rattle.std.specs.Option.{option_or}
use Rattle.policy.specs.Course.{Course}
use Rattle.books.specs.Rows.{blank_row}
use Rattle.books.specs.Slots.{books_at}
use Rattle.books.specs.declared.row.Row.{Row}
use Rattle.readings.specs.declared.reading.Reading.{Reading}

-- a value of row k + 1 is on show at instant n
abbrev pub is_shown : Course → List Row → ℕ → ℕ → Bool
is_shown c rs k n = (slice_index_or (books_at c rs n) k blank_row).shown

-- none of these rows has a value on show
abbrev pub NoneShown : List Row → Type 0
NoneShown rs = All (λ r. r.shown ≡ false) rs

-- instant n is the first at which row k + 1 has a value on show
pub record FirstFinish (c : Course) (rs : List Row) (k n : ℕ) : Type 0 where
  pub here : is_shown c rs k n ≡ true
  pub not_before : (m : ℕ) → m < n → is_shown c rs k m ≡ false

-- the first finish of a row by an instant: the one from before, or the instant if a value is on
-- show
abbrev pub finish_so_far : Row → Option ℕ → ℕ → Option ℕ
finish_so_far r before instant = option_or before (if r.shown then Some instant else None)

-- one instant for each of these readings
abbrev pub OneEach : List Reading → List ℕ → Type 0
OneEach ds finishes = length finishes ≡ length ds
