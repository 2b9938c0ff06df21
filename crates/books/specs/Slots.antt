-- A slot: an answer taken through its five steps, and the first fault on the way.
use Rattle.std.specs.Prelude.{ℕ, zero, suc, ◌+◌, ◌-◌, Bool, if◌then◌else◌, not, List, [], ◌∷◌, length, Some, None, Option, ◌==◌, nat_le, nat_lt, slice_index_or}
use Rattle.std.specs.Option.{option_or}
use Rattle.policy.specs.Course.{Answer, Course, names}
use Rattle.readings.specs.Firsts.{first_of}
use Rattle.books.specs.declared.fault.Fault.{Fault}
use Rattle.books.specs.declared.fault.Fault.TheVariants.{JobRule}
use Rattle.books.specs.declared.fault.Step.TheVariants.{Sample, Run, Judge}
use Rattle.books.specs.declared.row.Row.{Row}
use Rattle.books.specs.Rows.{blank_row, closed, finished, grown, opened, ran, row_fault}

-- step 1: row k + 1 is sampled if the mask of rows to sample names it
abbrev pub sampled : ℕ → ℕ → Row → Row
sampled m k r = if names m k then opened r else r

-- step 2: it is run if it is row n, the row to run
abbrev pub run : ℕ → ℕ → Row → Row
run n k r = if n == k + 1 then ran r else r

-- row k + 1 after steps 1 and 2
abbrev pub worked : Answer → ℕ → Row → Row
worked a k r = run a.1 k (sampled a.0 k r)

-- after step 3, as its age is judged in step 4
abbrev pub judged : Answer → ℕ → Row → Row
judged a k r = grown (worked a k r)

-- row k + 1 after all five steps of a slot
abbrev pub row_after : Answer → ℕ → Row → Row
row_after a k r = closed (judged a k r)

-- each row by its place, from row k + 1 on
abbrev pub each_from : {X : Type 0} → (ℕ → X → X) → ℕ → List X → List X
each_from f k [] = []
each_from f k (x ∷ xs) = f k x ∷ each_from f (k + 1) xs

-- the books when ages are judged
abbrev pub judged_rows : Answer → List Row → List Row
judged_rows a rs = each_from (judged a) 0 rs

-- the books after a slot: all rows through all five steps, faults or not
abbrev pub slot : Answer → List Row → List Row
slot a rs = each_from (row_after a) 0 rs

-- the lowest row, from row k + 1 on, that passes a test, if one does
abbrev pub lowest_from : (ℕ → Row → Bool) → ℕ → List Row → Option ℕ
lowest_from p k [] = None
lowest_from p k (r ∷ rs) = if p k r then Some (k + 1) else lowest_from p (k + 1) rs

-- the row whose value goes on show in a slot, if one does
abbrev pub shown_row : Answer → List Row → Option ℕ
shown_row a rs = lowest_from (λ k r. finished (judged a k r).job) 0 rs

-- step 1: to sample a row with an open job, or a row that the list lacks
abbrev pub sample_fault : ℕ → List Row → ℕ → Option Fault
sample_fault m rs k =
    if not (names m k) then None
    else if nat_lt k (length rs) then row_fault Sample (slice_index_or rs k blank_row) (k + 1)
    else Some (JobRule (k + 1))

-- step 2: to run a row without a job that has work left, or a row that the list lacks; 0 runs none
abbrev pub run_fault : Answer → List Row → Option Fault
run_fault a rs =
    if a.1 == 0 then None
    else if nat_le a.1 (length rs)
    then row_fault Run (sampled a.0 (a.1 - 1) (slice_index_or rs (a.1 - 1) blank_row)) a.1
    else Some (JobRule a.1)

-- step 4: a row that is not valid
abbrev pub stale_fault : Answer → List Row → ℕ → Option Fault
stale_fault a rs k = row_fault Judge (judged a k (slice_index_or rs k blank_row)) (k + 1)

-- the first fault of a slot, in the order of its steps, lowest row first; an answer can name 16
-- rows
abbrev pub fault : Answer → List Row → Option Fault
fault a rs =
    option_or (first_of (sample_fault a.0 rs) 0 16)
    (option_or (run_fault a rs) (first_of (stale_fault a rs) 0 (length rs)))

-- the books n slots ahead by a course
abbrev pub books_at : Course → List Row → ℕ → List Row
books_at c rs zero = rs
books_at c rs (suc n) = slot (c n) (books_at c rs n)

-- the fault of slot n of a course, if it has one
abbrev pub fault_at : Course → List Row → ℕ → Option Fault
fault_at c rs n = fault (c n) (books_at c rs n)
