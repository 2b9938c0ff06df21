-- The lists of the examples, and the books and timings that they begin with.
use Rattle.std.specs.Prelude.{◌≡◌, ℕ, List, [], ◌∷◌, map, Ok}
use Rattle.readings.specs.declared.reading.Reading.{Reading}
use Rattle.planner.specs.Periods.{more_less}
use Rattle.planner.specs.declared.timing.Timing.{Timing}
use Rattle.periodic.specs.Phases.{begun}
use Rattle.periodic.specs.declared.phase.Phase.{Phase}
use Rattle.books.specs.Rows.{come_on}
use Rattle.books.specs.declared.row.Row.{Row}

abbrev pub reading : (id work validity : ℕ) → Reading
reading id work validity = record { id = id; work = work; validity = validity }

-- list X
abbrev pub readings_x : List Reading
readings_x = reading 7 1 5 ∷ reading 8 2 10 ∷ reading 9 2 20 ∷ []

-- list Y
abbrev pub readings_y : List Reading
readings_y = reading 7 2 8 ∷ reading 8 2 10 ∷ reading 9 2 12 ∷ []

-- list Z
abbrev pub readings_z : List Reading
readings_z = reading 7 2 6 ∷ reading 8 3 13 ∷ []

-- list W, which shares two ids with X
abbrev pub readings_w : List Reading
readings_w = reading 7 1 6 ∷ reading 9 2 9 ∷ reading 12 2 20 ∷ []

-- list U, which shares one
abbrev pub readings_u : List Reading
readings_u = reading 9 2 4 ∷ []

-- list T, three rows alike
abbrev pub readings_t : List Reading
readings_t = reading 7 1 4 ∷ reading 8 1 4 ∷ reading 9 1 4 ∷ []

-- list S, of one row
abbrev pub readings_s : List Reading
readings_s = reading 7 1 2 ∷ []

-- new books for a list: all of its rows come on
abbrev pub new_books : List Reading → List Row
new_books ds = map come_on ds

-- where a periodic policy starts, by the timings of its rows
abbrev pub first_phases : List Timing → List Phase
first_phases ts = map begun ts

-- More-Less gives timings for a list, and P holds of them
abbrev pub MoreLessGives : List Reading → (List Timing → Type 0) → Type 0
MoreLessGives ds P = (ts : List Timing) × ((more_less ds ≡ Ok ts) × P ts)
