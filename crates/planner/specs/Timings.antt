-- The rows of a `Timings`, as a list.
use Rattle.std.specs.Prelude.{List}
use Rattle.rows.specs.Held.{rows_of as held}
use Rattle.planner.specs.declared.timing.Timing.{Timing}
use Rattle.planner.specs.declared.timings.Timings.{Timings}

-- the rows, first to last
abbrev pub timings_of : Timings → List Timing
timings_of t = held t.rows
