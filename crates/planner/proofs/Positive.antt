-- Rows with a period.
use Rattle.std.proofs.Common.{◌≤◌, List, arith}
use Rattle.std.proofs.lemmas.List.{length-map}
use Rattle.std.proofs.lemmas.List.Elements.{All-map}
use Rattle.readings.specs.Ranges.{WellMade}
use Rattle.readings.specs.declared.reading.Reading.{Reading}
use Rattle.planner.specs.Periods.{half_half, half_timing}
use Rattle.planner.specs.Timing.{WellTimed}
use Rattle.planner.specs.declared.timing.Timing.{Timing}

-- half of each validity is a period
pub halves : (rs : List Reading) → WellMade rs → WellTimed (half_half rs)
halves rs w =
    let n = length-map rs half_timing in
    record {
      some = let s = w.some in omega arith;
      few = let f = w.few in omega arith;
      positive = All-map (λ (t : Timing). 1 ≤ t.period) half_timing rs (λ k d h. let v = w.validities k d h in omega arith);
    }
