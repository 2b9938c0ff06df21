use Rattle.std.proofs.Common.{◌≡◌, ◌<◌, List, get_or, set, ap, ◌∙◌, subst}
use Rattle.periodic.specs.declared.phase.Phase.{Phase}
use Rattle.periodic.specs.Phases.{blank_phase, worked}
use Rattle.periodic.proofs.Lowest.{idle_ends}
use Rattle.periodic.proofs.periodic.run.Goals as goal

pub returns-then-phase-gt0 : goal.returns-then-phase-gt0
returns-then-phase-gt0 c =
    let e : c.loop-k.phases ≡ c.args.phases.now = c.loop-k.invariant.0 in
    let h = subst (λ (rs : List Phase). 0 < (get_or rs c.loop-k.k blank_phase).left) e c.if-phase-gt0.true in
    let i = idle_ends c.loop-k.k c.args.phases.now c.loop-k-test.true h c.loop-k.invariant.1 in
    record {
      answer = i.0;
      done = ap (λ (rs : List Phase). set rs c.loop-k.k (worked (get_or rs c.loop-k.k blank_phase))) e ∙ i.1;
    }
