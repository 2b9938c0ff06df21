-- Closing: a strip is stepped with new books, slot by slot, until the books alone repeat.
use Rattle.std.specs.Prelude.{ℕ, ◌+◌, ◌-◌, Bool, List, length, min, take, Some, None, Option, is_none, Ok, Err, Result, slice_index, slice_index_or}
use Rattle.policy.specs.Course.{Answer}
use Rattle.books.specs.Rows.{blank_row, same_rows}
use Rattle.books.specs.Slots.{fault, slot}
use Rattle.books.specs.declared.fault.Fault.{Fault}
use Rattle.books.specs.declared.row.Row.{Row}
use Rattle.repeat.specs.Finds.{RepeatFound, Stepping}
use Rattle.repeat.specs.Looking.{look}
use Rattle.repeat.specs.SearchStep.{search_from}
use Rattle.repeat.specs.declared.found.NoRepeat.{NoRepeat}
use Rattle.repeat.specs.declared.found.Repeat.{Repeat}
use Rattle.strip.specs.Answers.{strip_samples}

-- a strip with its books: its slots up to the limit, the place of the next one, and the books' rows
pub record Closing : Type 0 where
  pub slots : List ℕ
  pub place : ℕ
  pub rows : List Row

-- the row that the next slot names, or 0
abbrev pub row_named : Closing → ℕ
row_named s = slice_index s.slots s.place

-- by the books it has no open job
abbrev pub row_rests : Closing → Bool
row_rests s = is_none (slice_index_or s.rows (row_named s - 1) blank_row).job

-- the answer for the next slot
abbrev pub closing_answer : Closing → Answer
closing_answer s = (strip_samples (length s.rows) s.place (row_named s) (row_rests s), row_named s)

-- the fault of the next slot
abbrev pub closing_fault : Closing → Option Fault
closing_fault s = fault (closing_answer s) s.rows

-- a slot later; at the end of its slots a strip stays there
abbrev pub closing_next : Closing → Closing
closing_next s =
    record {
      slots = s.slots;
      place = min (s.place + 1) (length s.slots);
      rows = slot (closing_answer s) s.rows;
    }

-- the books are equal, and nothing else is compared
abbrev pub closing_alike : Closing → Closing → Bool
closing_alike s t = same_rows s.rows t.rows

-- what stepping a strip with its books means: a fault stops it where it is
abbrev pub closing_meaning : Stepping Closing Fault
closing_meaning =
    record {
      fault = closing_fault;
      next = closing_next;
      stopped = λ s. s;
      alike = closing_alike;
    }

-- a strip at its start, up to its limit, with books of these rows
abbrev pub closing_from : (slots : List ℕ) → (limit : ℕ) → List Row → Closing
closing_from slots limit rows = record { slots = take limit slots; place = 0; rows = rows }

-- the books repeat: first at instant t, as they were at the mark, with no fault before, up to the
-- limit
abbrev pub Repeats : (slots : List ℕ) → (limit : ℕ) → List Row → (mark t : ℕ) → Type 0
Repeats slots limit rows mark t =
    RepeatFound closing_meaning (closing_from slots limit rows) limit mark t

-- the loop of a repeat: its first slot and its last, both inside
abbrev pub loop_to : Result Repeat (NoRepeat Fault) → Option (ℕ × ℕ)
loop_to (Ok found) = Some (found.mark, found.instant - 1)
loop_to (Err end) = None

-- the loop of slots up to a limit with books of these rows, if the books repeat
abbrev pub loop_of : (slots : List ℕ) → (limit : ℕ) → List Row → Option (ℕ × ℕ)
loop_of slots limit rows =
    loop_to (look closing_meaning limit 0 (search_from (closing_from slots limit rows)))
