-- A crossing: at an instant the books of one list become those of another.
use Rattle.std.specs.Prelude.{ℕ, ◌+◌, List, map, length, slice_index_or, Some, None, Option}
use Rattle.readings.specs.Firsts.{first_of}
use Rattle.readings.specs.declared.reading.Reading.{Reading}
use Rattle.books.specs.declared.fault.Fault.{Fault}
use Rattle.books.specs.declared.fault.Step.TheVariants.{Judge}
use Rattle.books.specs.declared.row.Row.{Row}
use Rattle.books.specs.Lookups.{row_of}
use Rattle.books.specs.Rows.{blank_row, come_on, row_fault}

-- a reading of the new list as it comes over: an id of the old books keeps age and value, and any
-- other comes on with age 0
abbrev pub carry : Reading → Option Row → Row
carry d None = come_on d
carry d (Some r) = record r { reading = d; job = None }

-- the books after a crossing from the old ones to a list
abbrev pub crossed : List Row → List Reading → List Row
crossed old new = map (λ d. carry d (row_of old d.id)) new

-- a row that is not valid
abbrev pub late_fault : List Row → ℕ → Option Fault
late_fault rs k = row_fault Judge (slice_index_or rs k blank_row) (k + 1)

-- the first row that is not valid as it comes over
abbrev pub crossing_fault : List Row → List Reading → Option Fault
crossing_fault old new = first_of (late_fault (crossed old new)) 0 (length (crossed old new))
