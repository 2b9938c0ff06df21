use Rattle.std.proofs.Common.{map, sym, ap, ◌∙◌, subst, None}
use Rattle.policy.specs.Policies.{course_of}
use Rattle.readings.specs.Lists.{rows_of as readings_of}
use Rattle.readings.specs.declared.list.Readings.{Readings}
use Rattle.books.specs.Held.{rows_of}
use Rattle.books.specs.Rows.{come_on}
use Rattle.walk.specs.Plans.{finishes_of}
use Rattle.board.specs.Lasting.{LastingRun}
use Rattle.board.proofs.Lasting.{begun}
use Rattle.board.proofs.run.Run.new.Goals as goal

pub invariant_of-result : goal.invariant_of-result
invariant_of-result g c =
    let plan = c.args.plan in
    let is = c.new.ensures.value ∙ ap (λ (l : Readings). map come_on (readings_of l)) c.list.ensures in
    record {
      lasting = subst (λ p. LastingRun (record { rows = rows_of c.new.result; course = course_of g.P.Policy p; waiting = None })) (sym c.into_policy.ensures)
          (begun (readings_of plan.list) (course_of g.P.Policy plan.policy) (rows_of c.new.result) (finishes_of plan) plan.list.law is plan.accepted);
    }
