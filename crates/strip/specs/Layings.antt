-- What a strip holds that is laid, or is yet to be.
use Rattle.std.specs.Borrow.{MutBor}
use Rattle.std.specs.Option.{option_map_or}
use Rattle.std.specs.Prelude.{ℕ, List, [], length, map, take, Option}
use Rattle.readings.specs.declared.reading.Reading.{Reading}
use Rattle.books.specs.Rows.{come_on}
use Rattle.strip.specs.Closings.{Repeats, loop_of}
use Rattle.strip.specs.declared.laying.Layout.{Layout}
use Rattle.strip.specs.declared.laying.LayingStrip.{LayingStrip}

-- its memory, as it was lent
abbrev pub lent_memory : LayingStrip → MutBor (List ℕ)
lent_memory s = s.memory

-- how many bytes that memory has
abbrev pub room_of : LayingStrip → ℕ
room_of s = length s.memory.now

-- the slots that were laid last: a byte for each, the row that runs in it or 0; none at first
abbrev pub laid_slots : LayingStrip → List ℕ
laid_slots s = option_map_or (λ (l : Layout). take l.count s.memory.now) s.laid []

-- the limit that laying them left, or 0
abbrev pub laid_limit : LayingStrip → ℕ
laid_limit s = option_map_or (λ (l : Layout). l.limit) s.laid 0

-- the rows of the list that they were laid for
abbrev pub laid_rows : LayingStrip → List Reading
laid_rows s = option_map_or (λ (l : Layout). l.list) s.laid []

-- the books repeat: new books for its list, walked over its slots up to its limit
abbrev pub LaidRepeats : LayingStrip → (mark t : ℕ) → Type 0
LaidRepeats s = Repeats (laid_slots s) (laid_limit s) (map come_on (laid_rows s))

-- the first and the last slot of the loop, if they do
abbrev pub laid_loop : LayingStrip → Option (ℕ × ℕ)
laid_loop s = loop_of (laid_slots s) (laid_limit s) (map come_on (laid_rows s))
