-- Where a policy with its books stands after some slots, and what one more slot does.
use Rattle.std.specs.Prelude.{◌≡◌, ℕ, ◌+◌, List, min, None, Option, ◌≢◌}
use Rattle.std.specs.Option.{option_map_or}
use Rattle.readings.specs.declared.reading.Reading.{Reading}
use Rattle.policy.specs.Course.{Course}
use Rattle.books.specs.Held.{rows_of}
use Rattle.books.specs.Lookups.{row_of}
use Rattle.books.specs.Slots.{books_at, fault_at, shown_row}
use Rattle.books.specs.declared.books.Books.{Books}
use Rattle.books.specs.declared.row.Row.{Row}
use Rattle.examples.specs.Lists.{new_books}
use Rattle.examples.specs.declared.ending.Ending.{Ending}
use Rattle.examples.specs.declared.ending.Ending.TheVariants.{Judged}

-- some slot of a course has a fault
abbrev pub Faulty : Course → List Reading → Type 0
Faulty c ds = (m : ℕ) × (fault_at c (new_books ds) m ≢ None)

-- these are the books after n slots of a course, and this is the course from there
pub record StandsAfter (c : Course) (ds : List Reading) (n : ℕ) (books : Books) (rest : Course)
    : Type 0 where
  pub books_are : rows_of books ≡ books_at c (new_books ds) n
  pub course_is : (m : ℕ) → rest m ≡ c (n + m)

-- the age that a row comes to in a slot, if there is a row
abbrev pub next_age : Option Row → ℕ
next_age o = option_map_or (λ (r : Row). min (r.age + 1) 65535) o 0

-- the age that the row with an id comes to in slot n, and the row that the slot puts on show
abbrev pub slot_ending : Course → List Reading → (n id : ℕ) → Ending
slot_ending c ds n id =
    Judged (next_age (row_of (books_at c (new_books ds) n) id))
    (shown_row (c n) (books_at c (new_books ds) n))
