-- Where the strip kind of policy stands, what it answers there, and where a step leads.
use Rattle.std.specs.Prelude.{ℕ, ◌+◌, ◌-◌, Bool, ◌&&◌, ◌||◌, if◌then◌else◌, List, length, map, ◌==◌, slice_index, slice_index_or}
use Rattle.readings.specs.declared.reading.Reading.{Reading}
use Rattle.policy.specs.Course.{Answer, Course, ahead}
use Rattle.books.specs.Slots.{each_from}
use Rattle.strip.specs.Answers.{strip_samples}
use Rattle.strip.specs.declared.work.RowWork.{RowWork}

-- the slots of a strip with its loop, the place of the next slot, and the work of each row
pub record Position : Type 0 where
  pub slots : List ℕ
  pub first : ℕ
  pub last : ℕ
  pub place : ℕ
  pub rows : List RowWork

-- what stands past the last row
abbrev pub no_work : RowWork
no_work = record { work = 0; left = 0 }

-- a row at a start: no work is left
abbrev pub resting : Reading → RowWork
resting r = record { work = r.work; left = 0 }

-- a strip at its start, for the rows of a list
abbrev pub start_at : List Reading → (slots : List ℕ) → (first last : ℕ) → Position
start_at rs slots first last =
    record { slots = slots; first = first; last = last; place = 0; rows = map resting rs }

-- the row that the next slot names, or 0
abbrev pub row_named : Position → ℕ
row_named p = slice_index p.slots p.place

-- it has no work left
abbrev pub row_rests : Position → Bool
row_rests p = (slice_index_or p.rows (row_named p - 1) no_work).left == 0

-- the answer for the next slot
abbrev pub strip_answer : Position → Answer
strip_answer p = (strip_samples (length p.rows) p.place (row_named p) (row_rests p), row_named p)

-- row k + 1 is sampled in a slot that names a row: its work begins anew; if it is the one named, it
-- then has a slot of work less
abbrev pub work_after : (place row k : ℕ) → RowWork → RowWork
work_after place row k w =
    record w {
      left =
          (if place == 0 || (row == k + 1 && w.left == 0) then w.work else w.left)
          - (if row == k + 1 then 1 else 0);
    }

-- a slot later: after the last slot of the loop comes the first
abbrev pub strip_next : Position → Position
strip_next p =
    record p {
      place = if p.place == p.last then p.first else p.place + 1;
      rows = each_from (work_after p.place (row_named p)) 0 p.rows;
    }

-- the answers of all slots, counted from the next one
abbrev pub strip_course : Position → Course
strip_course = ahead strip_next strip_answer
