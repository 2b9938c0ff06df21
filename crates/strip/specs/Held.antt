-- What a closed strip holds.
use Rattle.std.specs.Borrow.{MutBor}
use Rattle.std.specs.Prelude.{ℕ, List, take}
use Rattle.readings.specs.declared.reading.Reading.{Reading}
use Rattle.policy.specs.Course.{Course}
use Rattle.strip.specs.Positions.{Position, start_at, strip_course}
use Rattle.strip.specs.declared.closed.ClosedStrip.{ClosedStrip}

-- its memory, as it was lent
abbrev pub memory_of : ClosedStrip → MutBor (List ℕ)
memory_of c = c.memory

-- its slots: a byte for each, the row that it names or 0
abbrev pub slots_of : ClosedStrip → List ℕ
slots_of c = take c.count c.memory.now

-- the rows of its list
abbrev pub list_rows : ClosedStrip → List Reading
list_rows c = c.list

-- the first slot of its loop
abbrev pub loop_first : ClosedStrip → ℕ
loop_first c = c.first

-- the last slot inside its loop
abbrev pub loop_last : ClosedStrip → ℕ
loop_last c = c.last

-- where a player of it starts
abbrev pub loop_start : ClosedStrip → Position
loop_start c = start_at (list_rows c) (slots_of c) (loop_first c) (loop_last c)

-- the answers of all slots from there
abbrev pub loop_course : ClosedStrip → Course
loop_course c = strip_course (loop_start c)
