use Rattle.std.proofs.Common.{ap, ◌∙◌}
use Rattle.periodic.specs.Positions.{phases_of}
use Rattle.periodic.specs.Phases.{same_phases}
use Rattle.periodic.specs.Sames.{phases_decide}
use Rattle.periodic.proofs.periodic.PeriodicPolicy.same.Goals as goal

pub returns-clause-exact : goal.returns-clause-exact
returns-clause-exact c =
    let xs = phases_of c.args.self.now in
    let ys = phases_of c.args.other.now in
    rw (c.eq.ensures ∙ ap (same_phases c.phases.result.now) c.phases-2.ensures ∙ ap (λ zs. same_phases zs ys) c.phases.ensures)
    (phases_decide xs ys)
