use Rattle.std.proofs.Common.{ap}
use Rattle.readings.specs.Lists.{rows_of as readings_of}
use Rattle.readings.specs.Refusals.{content}
use Rattle.periodic.specs.Positions.{phases_of}
use Rattle.books.specs.Held.{rows_of}
use Rattle.walk.specs.Plans.{finishes_of}
use Rattle.examples.proofs.Running.{crossing_told, no_fault_x, no_refusal_y}
use Rattle.examples.proofs.example.crossing_after.Goals as goal

pub returns-in_err-books : goal.returns-in_err-books
returns-in_err-books c =
    absurd (no_fault_x (readings_of c.in_ok-x.x) (phases_of c.in_ok-more_less_policy.field-0)
    c.in_ok-x.ensures c.in_ok-more_less_policy.ensures.ok c.in_err-books.ensures.err)

pub returns-in_err-plan : goal.returns-in_err-plan
returns-in_err-plan c =
    absurd (no_refusal_y (readings_of c.in_ok-y.y) (phases_of c.in_ok-more_less_policy-2.field-0)
    (content c.in_err-plan.field-0.0) c.in_ok-y.ensures c.in_ok-more_less_policy-2.ensures.ok
    c.in_err-plan.ensures.only)

pub returns : goal.returns
returns c =
    crossing_told (readings_of c.in_ok-x.x) (readings_of c.in_ok-y.y)
    (readings_of c.in_ok-plan.plan.list) (phases_of c.in_ok-more_less_policy.field-0)
    (phases_of c.in_ok-more_less_policy-2.field-0) c.args.slots (rows_of c.in_ok-books.books)
    (finishes_of c.in_ok-plan.plan) c.may_cross.result c.in_ok-x.ensures
    c.in_ok-more_less_policy.ensures.ok c.in_ok-y.ensures c.in_ok-more_less_policy-2.ensures.ok
    c.in_ok-books.ensures.ok.books_are (ap readings_of c.in_ok-plan.ensures.list)
    c.in_ok-plan.ensures.accepts c.may_cross.ensures.test
