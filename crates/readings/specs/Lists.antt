-- The rows of a list.
use Rattle.std.specs.Prelude.{List}
use Rattle.readings.specs.declared.reading.Reading.{Reading}
use Rattle.readings.specs.declared.list.Readings.{Readings}
use Rattle.rows.specs.Held.{rows_of as held}

-- the readings of a list, first to last
abbrev pub rows_of : Readings → List Reading
rows_of l = held l.rows
