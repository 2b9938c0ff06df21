use Rattle.readings.specs.Lists.{rows_of}
use Rattle.readings.specs.Refusals.{content}
use Rattle.periodic.specs.Positions.{phases_of}
use Rattle.examples.proofs.Running.{no_refusal_x}
use Rattle.examples.proofs.example.finishes_of_x.Goals as goal

pub returns-in_err-plan : goal.returns-in_err-plan
returns-in_err-plan c =
    absurd (no_refusal_x (rows_of c.in_ok-x.x) (phases_of c.in_ok-more_less_policy.field-0)
    (content c.in_err-plan.field-0.0) c.in_ok-x.ensures c.in_ok-more_less_policy.ensures.ok
    c.in_err-plan.ensures.only)
