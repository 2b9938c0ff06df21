use Rattle.std.proofs.Common.{◌≡◌, length, drop}
use Rattle.readings.specs.Lists.{rows_of as readings_of}
use Rattle.rows.specs.Held.{rows_of as held}
use Rattle.planner.specs.Periods.{more_less, more_less_below}
use Rattle.planner.specs.Timing.{Positive}
use Rattle.planner.proofs.timings.Timings.more_less.Given as goal

abbrev pub invariant-loop-k : goal.invariant-loop-k
invariant-loop-k l = record {
  items : l.reading-items ≡ readings_of l.list;
  below : more_less_below (held l.rows) (drop l.k l.reading-items) ≡ more_less (readings_of l.list);
  count : length (held l.rows) ≡ l.k;
  positive : Positive (held l.rows);
}
