-- A closed strip without the memory that it lies in, and the one that laying and closing makes.
use Rattle.std.specs.Prelude.{ℕ, List, [], length, map, Some, None, Option, Ok, Err, Result}
use Rattle.readings.specs.Ranges.{WellMade}
use Rattle.readings.specs.Refusals.{Content}
use Rattle.readings.specs.declared.reading.Reading.{Reading}
use Rattle.books.specs.Rows.{come_on}
use Rattle.deferral.specs.Laying.{Laying, lay}
use Rattle.strip.specs.Closings.{loop_of}
use Rattle.strip.specs.Held.{list_rows, loop_first, loop_last, slots_of}
use Rattle.strip.specs.Positions.{Position, start_at}
use Rattle.strip.specs.WellClosed.{WellClosed}
use Rattle.strip.specs.declared.closed.ClosedStrip.{ClosedStrip}

-- the rows of its list, its slots, and the first and the last slot of its loop
pub record Strip : Type 0 where
  pub rows : List Reading
  pub slots : List ℕ
  pub first : ℕ
  pub last : ℕ

-- that of a closed strip
abbrev pub strip_of : ClosedStrip → Strip
strip_of c =
    record { rows = list_rows c; slots = slots_of c; first = loop_first c; last = loop_last c }

-- its rows make a list, and its slots are closed for them: so it is with every closed strip
pub record IsClosed (s : Strip) : Type 0 where
  pub list : WellMade s.rows
  pub closed : WellClosed (length s.rows) s.slots (length s.slots) s.first s.last

-- where a player of it starts
abbrev pub start_of : Strip → Position
start_of s = start_at s.rows s.slots s.first s.last

-- slots that are laid for a list, with their loop; refused with 9 where there is none
abbrev pub with_loop : List Reading → (slots : List ℕ) → Option (ℕ × ℕ) → Result Strip Content
with_loop rows slots (Some loop) =
    Ok (record { rows = rows; slots = slots; first = loop.0; last = loop.1 })
with_loop rows slots None = Err (9, [])

-- what laying has made, closed to a loop
abbrev pub closed_strip : List Reading → Laying → Result Strip Content
closed_strip rows (Ok laid) = with_loop rows laid.0 (loop_of laid.0 laid.1 (map come_on rows))
closed_strip rows (Err refusal) = Err refusal

-- a strip of n slots, laid for a list and closed to a loop, or the first refusal
abbrev pub laid_strip : List Reading → (n : ℕ) → Result Strip Content
laid_strip rows n = closed_strip rows (lay rows n)
