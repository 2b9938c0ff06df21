use Rattle.walk.specs.StepLaws.{alike_lasts}
use Rattle.walk.proofs.walker.Walker.search.Goals as goal

pub returns-clause-faultless : goal.returns-clause-faultless
returns-clause-faultless g c = c.first_repeat.ensures.faultless (alike_lasts g.P.Policy.meaning)
