use Rattle.std.proofs.Common.{◌≡◌, map, sym, ap, ◌∙◌, subst}
use Rattle.std.proofs.lemmas.List.{take_all}
use Rattle.rows.specs.Held.{rows_of as held}
use Rattle.planner.specs.Periods.{half_half, half_timing}
use Rattle.planner.specs.Timing.{WellTimed}
use Rattle.planner.proofs.Positive.{halves}
use Rattle.planner.proofs.timings.Timings.half_half.Goals as goal

pub invariant_of-result : goal.invariant_of-result
invariant_of-result c =
    let given = c.rows-reading-items.result.now in
    let all : held c.loop-reading.rows ≡ half_half given = c.loop-reading.invariant.made ∙ ap (map half_timing) (take_all c.loop-reading.reading-index given c.loop-reading-test.false) in
    record { law = subst WellTimed (sym all) (halves given c.rows-reading-items.ensures.law) }
