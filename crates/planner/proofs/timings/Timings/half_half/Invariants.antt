use Rattle.std.proofs.Common.{◌≡◌, map, take}
use Rattle.readings.specs.Lists.{rows_of as readings_of}
use Rattle.rows.specs.Held.{rows_of as held}
use Rattle.planner.specs.Periods.{half_timing}
use Rattle.planner.proofs.timings.Timings.half_half.Given as goal

abbrev pub invariant-loop-reading : goal.invariant-loop-reading
invariant-loop-reading l = record {
  items : l.reading-items ≡ readings_of l.list;
  made : held l.rows ≡ map half_timing (take l.reading-index l.reading-items);
}
