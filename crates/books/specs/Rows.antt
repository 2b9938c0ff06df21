-- What the books keep of a row, and what each step of a slot does to it.
use Rattle.std.specs.Prelude.{ℕ, ◌+◌, ◌-◌, Bool, true, false, if◌then◌else◌, not, ◌&&◌, List, Some, None, Option, option_map, is_some, ◌==◌}
use Rattle.std.specs.Bool.{beq}
use Rattle.std.specs.Cmp.Lexicographic.{pointwise}
use Rattle.std.specs.Option.{option_eq, option_map_or}
use Rattle.readings.specs.declared.reading.Reading.{Reading}
use Rattle.readings.specs.Ranges.{blank}
use Rattle.books.specs.declared.fault.Fault.{Fault}
use Rattle.books.specs.declared.fault.Fault.TheVariants.{JobRule, Stale}
use Rattle.books.specs.declared.fault.Step.{Step}
use Rattle.books.specs.declared.fault.Step.TheVariants.{Sample, Run, Judge}
use Rattle.books.specs.declared.row.Job.{Job}
use Rattle.books.specs.declared.row.Row.{Row}
use Rattle.books.specs.Valid.{is_valid}

-- a row as it comes on: no value on show, age 0, no job
abbrev pub come_on : Reading → Row
come_on r = record { reading = r; shown = false; age = 0; job = None }

-- what stands past the last row
abbrev pub blank_row : Row
blank_row = come_on blank

-- a row is sampled: it opens a job of age 0 with its work length left
abbrev pub opened : Row → Row
opened r = record r { job = Some (record { age = 0; left = r.reading.work }) }

-- a row is run: its job loses one slot of work left
abbrev pub ran : Row → Row
ran r = record r { job = option_map (λ (j : Job). record j { left = j.left - 1 }) r.job }

-- a slot passes: all ages grow by one
abbrev pub grown : Row → Row
grown r =
    record r {
      age = r.age + 1;
      job = option_map (λ (j : Job). record j { age = j.age + 1 }) r.job;
    }

-- a row whose open job is this one: without work left it closes
abbrev pub closed_by : Row → Option Job → Row
closed_by r None = r
closed_by r (Some j) = if j.left == 0 then record r { shown = true; age = j.age; job = None } else r

-- a job without work left closes: its value goes on show, and its age becomes the row's
abbrev pub closed : Row → Row
closed r = closed_by r r.job

-- a job is open, and no work is left
abbrev pub finished : Option Job → Bool
finished o = option_map_or (λ (j : Job). j.left == 0) o false

-- a job is open, and work is left
abbrev pub has_work : Option Job → Bool
has_work o = option_map_or (λ (j : Job). not (j.left == 0)) o false

-- the age of a job, 0 for none
abbrev pub job_age : Option Job → ℕ
job_age o = option_map_or (λ (j : Job). j.age) o 0

-- a row is not valid: its age is above its validity, and not only equal to it
abbrev pub stale : Row → Bool
stale r = not (is_valid r)

-- what is wrong with a row, number n, in a step of a slot
abbrev pub row_fault : Step → Row → ℕ → Option Fault
row_fault Sample r n = if is_some r.job then Some (JobRule n) else None
row_fault Run r n = if has_work r.job then None else Some (JobRule n)
row_fault Judge r n = if stale r then Some (Stale n) else None

-- all that is kept of two jobs is equal
abbrev pub same_job : Job → Job → Bool
same_job j k = j.age == k.age && j.left == k.left

-- all three numbers of two readings are equal
abbrev pub same_reading : Reading → Reading → Bool
same_reading a b = a.id == b.id && (a.work == b.work && a.validity == b.validity)

-- all that is kept of two rows is equal
abbrev pub same_row : Row → Row → Bool
same_row a b =
    a.age == b.age
    && (option_eq same_job a.job b.job
    && (beq a.shown b.shown && same_reading a.reading b.reading))

-- there are as many rows, and all that is kept of each is equal
abbrev pub same_rows : List Row → List Row → Bool
same_rows = pointwise same_row
