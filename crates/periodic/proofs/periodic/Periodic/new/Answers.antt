use Rattle.std.proofs.Common.{◌<◌, List, map, length, length-set, ap, ◌∙◌, subst, arith}
use Rattle.planner.specs.Timing.{blank_timing}
use Rattle.planner.specs.declared.timing.Timing.{Timing}
use Rattle.periodic.specs.Plays.{Plays}
use Rattle.periodic.specs.Phases.{begun, periodic_course}
use Rattle.policy.proofs.Filled.{filled_all, filled_more}
use Rattle.periodic.proofs.Played.{periodic_plays}
use Rattle.periodic.proofs.periodic.Periodic.new.Goals as goal

pub loop-k-preserved : goal.loop-k-preserved
loop-k-preserved c =
    let inside : c.loop-k.k < length c.loop-k.phases = omega (arith, c.rows-rows.ensures.law.few, c.loop-k.invariant.long) in
    record {
      filled = filled_more begun c.loop-k.phases c.rows-rows.result.now c.loop-k.k blank_timing c.new.result c.loop-k-test.true inside c.loop-k.invariant.filled c.new.ensures;
      long = length-set c.loop-k.phases c.loop-k.k c.new.result ∙ c.loop-k.invariant.long;
    }

pub returns : goal.returns
returns c =
    let given = c.rows-rows.result.now in
    let e = filled_all begun c.loop-k.phases given c.loop-k.k c.loop-k-test.false c.loop-k.auto.k-end c.loop-k.invariant.filled in
    record {
      begun = e ∙ ap (map begun) c.rows-rows.ensures.value;
      plays = rw e (subst (λ (ts : List Timing). Plays ts (periodic_course (map begun given))) c.rows-rows.ensures.value (periodic_plays given c.rows-rows.ensures.law.positive));
    }
