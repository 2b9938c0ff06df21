-- What the parts of the code do that a slot is put together from.
use Rattle.std.specs.Prelude.{ℕ, ◌+◌, ◌<◌, Bool, All, List, slice_index_or, Option}
use Rattle.books.specs.declared.fault.Fault.{Fault}
use Rattle.books.specs.declared.fault.Step.TheVariants.{Judge}
use Rattle.books.specs.declared.row.Row.{Row}
use Rattle.books.specs.Rows.{blank_row, closed, finished, grown, job_age, row_fault}

-- steps 3 and 5: a slot passes, and a job without work left closes
abbrev pub passed : ℕ → Row → Row
passed k r = closed (grown r)

-- a row whose job closes when the slot passes
abbrev pub finishes : ℕ → Row → Bool
finishes k r = finished (grown r).job

-- a row that is not valid once all ages have grown
abbrev pub grown_fault : List Row → ℕ → Option Fault
grown_fault rs k = row_fault Judge (grown (slice_index_or rs k blank_row)) (k + 1)

-- ages that have room to grow in 16 bits
abbrev pub Young : List Row → Type 0
Young rs = All (λ r. (r.age < 65535) × (job_age r.job < 65535)) rs
