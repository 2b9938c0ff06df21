-- The strips of plans.
use Rattle.std.specs.Prelude.{◌+◌, ◌-◌, List, [], ◌∷◌, map}
use Rattle.readings.specs.declared.reading.Reading.{Reading}
use Rattle.books.specs.Rows.{come_on}
use Rattle.strip.specs.Meanings.{strip_meaning}
use Rattle.strip.specs.Strips.{Strip, start_of}
use Rattle.walk.specs.Walks.{Walks, granted}

-- two empty slots for the rows of a list, the second the loop
abbrev pub empty_strip : List Reading → Strip
empty_strip rows = record { rows = rows; slots = 0 ∷ 0 ∷ []; first = 1; last = 1 }

-- the walk of its player grants it with its loop
abbrev pub LoopWalked : Strip → Type 0
LoopWalked s =
    Walks strip_meaning (start_of s) (map come_on s.rows) (granted s.first (s.last + 1 - s.first))
