-- Laying: the jobs of each row, row by row, on a strip of so many slots.
use Rattle.std.specs.List.{list_any}
use Rattle.std.specs.Option.{option_map, option_map_or}
use Rattle.std.specs.Prelude.{ℕ, zero, suc, ◌+◌, Bool, ◌&&◌, if◌then◌else◌, List, [], ◌∷◌, replicate, Some, None, Option, Ok, Err, Result, nat_le, nat_lt}
use Rattle.readings.specs.Refusals.{Content}
use Rattle.readings.specs.declared.reading.Reading.{Reading}
use Rattle.planner.specs.Response.{least}
use Rattle.books.specs.Slots.{each_from}
use Rattle.deferral.specs.Free.{Free, free_between, free_in, last_free}
use Rattle.deferral.specs.Jobs.{takes}
use Rattle.deferral.specs.declared.span.Span.{Span}

-- the deadline of a first job: past the first c free slots, if so many lie below the limit
abbrev pub first_deadline : Free → (c limit : ℕ) → Option ℕ
first_deadline free c limit = least (λ d. nat_le c (free_between free 0 d)) limit

-- the job after one: its deadline comes a validity after the sample before, and it is sampled at
-- the earliest of the last c free slots before that
abbrev pub next_span : Free → (c v : ℕ) → Span → Span
next_span free c v s =
    record { sample = last_free free (s.sample + v) c; deadline = s.sample + v }

-- too few free slots lie from the deadline of one job to that of the next
abbrev pub lacks_room : Free → (c v : ℕ) → Span → Bool
lacks_room free c v s = nat_lt (free_between free s.deadline (s.sample + v)) c

-- the jobs after one, up to the limit, if each has room; each has a later deadline than the one
-- before, so `most` is a bound for their number
abbrev pub later_jobs : (most : ℕ) → Free → (c v limit : ℕ) → Span → Option (List Span)
later_jobs zero free c v limit s = Some []
later_jobs (suc most) free c v limit s =
    if nat_lt limit (s.sample + v) then Some []
    else if lacks_room free c v s then None
    else
    option_map (λ js. next_span free c v s ∷ js)
    (later_jobs most free c v limit (next_span free c v s))

-- the deadline of the last of a job and those after it
abbrev pub last_deadline : Span → List Span → ℕ
last_deadline s [] = s.deadline
last_deadline s (j ∷ js) = last_deadline j js

-- a strip once a row is laid on it: the row has the slots that its jobs take
abbrev pub with_jobs : (row : ℕ) → List Span → List ℕ → List ℕ
with_jobs row js xs =
    each_from (λ n x. if list_any (λ s. takes (free_in xs) s n) js then row else x) 0 xs

-- what laying makes: the slots, and the limit
abbrev pub Laying : Type 0
Laying = Result (List ℕ × ℕ) Content

-- a row with its first job laid: its other jobs follow up to the limit, which becomes the deadline
-- of the last; refused with 8 where one of them lacks room
abbrev pub lay_later : (row : ℕ) → Reading → (limit : ℕ) → List ℕ → Span → Laying
lay_later row r limit xs s =
    option_map_or (λ js. Ok (with_jobs row (s ∷ js) xs, last_deadline s js))
    (later_jobs limit (free_in xs) r.work r.validity limit s) (Err (8, row ∷ []))

-- a row: refused with 7 where too few free slots lie below the limit for its first job
abbrev pub lay_row : (row : ℕ) → Reading → (limit : ℕ) → List ℕ → Laying
lay_row row r limit xs =
    option_map_or (λ d. lay_later row r limit xs (record { sample = 0; deadline = d }))
    (first_deadline (free_in xs) r.work limit) (Err (7, row ∷ []))

-- the rows from row k + 1 on, each up to the limit that the row above left
abbrev pub lay_rows : (k : ℕ) → List Reading → (limit : ℕ) → List ℕ → Laying
lay_rows k [] limit xs = Ok (xs, limit)
lay_rows k (r ∷ rs) limit xs =
    elim (lay_row (k + 1) r limit xs) [
      | Ok laid ↦ lay_rows (k + 1) rs laid.1 laid.0
      | Err refusal ↦ Err refusal
    ]

-- a strip has 1 to 32,767 slots
abbrev pub is_strip_length : ℕ → Bool
is_strip_length n = nat_le 1 n && nat_le n 32767

-- laying a list on a strip of n slots, which are all set to 0 first; refused with 6 for the number
-- of slots
abbrev pub lay : List Reading → (n : ℕ) → Laying
lay rs n = if is_strip_length n then lay_rows 0 rs n (replicate n 0) else Err (6, [])
