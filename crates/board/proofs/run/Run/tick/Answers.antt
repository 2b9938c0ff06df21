use Rattle.std.proofs.Common.{sym, refl, ap, ◌∙◌, subst}
use Rattle.policy.specs.Policies.{course_of}
use Rattle.board.specs.Held.{running_of}
use Rattle.board.specs.Lasting.{LastingRun}
use Rattle.board.specs.Waits.{crossing_to}
use Rattle.board.proofs.Lasting.{tick_lasts}
use Rattle.board.proofs.Ticking.{moved, not_due, tick_clear, tick_crosses, tick_goes_on}
use Rattle.board.proofs.run.Run.tick.Goals as goal
use Rattle.board.proofs.run.Run.tick.Goals.{in-Some, in_default}

pub cross_over-requires : goal.cross_over-requires
cross_over-requires g c =
    let r = c.args.self.now in
    let s = c.pass_slot-passed.ensures.books in
    let due = rw c.in-Some.is at c.come_nearer-plan.ensures.plan in
    rw s (tick_clear (running_of r) (crossing_to c.in-Some.plan 0) due refl r.lasting)

pub invariant_of-self : goal.invariant_of-self
invariant_of-self g c =
    let r = c.args.self.now in
    let s = c.pass_slot-passed.ensures.books in
    let due = rw c.in-Some.is at c.come_nearer-plan.ensures.plan in
    let none = rw c.in-Some.is at c.come_nearer-plan.ensures.none in
    let to = c.cross_over.ensures in
    record {
      lasting = subst LastingRun (sym (tick_crosses (running_of r) (crossing_to c.in-Some.plan 0) due refl _ _ _ _ s to.books (ap (course_of g.P.Policy) to.policy) none))
          (tick_lasts (running_of r) r.lasting);
    }

pub invariant_of-self-in_default : goal.invariant_of-self-in_default
invariant_of-self-in_default g c =
    let r = c.args.self.now in
    let s = c.pass_slot-passed.ensures.books in
    let m = moved g.P.Policy.meaning _ _ c.pass_slot-passed.ensures.policy in
    let later = rw c.in_default.is at c.come_nearer-plan.ensures.later in
    let not_now = not_due c.come_nearer-plan.result _ c.come_nearer-plan.ensures.due c.in_default.is in
    record { lasting = subst LastingRun (sym (tick_goes_on (running_of r) _ _ _ s m later not_now)) (tick_lasts (running_of r) r.lasting) }

pub returns-clause-after : goal.returns-clause-after
returns-clause-after g c =
    let r = c.args.self.now in
    let s = c.pass_slot-passed.ensures.books in
    elim c.match-plan.branch [
      | in-Some w ↦
          let due = rw w.in-Some.is at c.come_nearer-plan.ensures.plan in
          let none = rw w.in-Some.is at c.come_nearer-plan.ensures.none in
          let to = w.cross_over.ensures in
          ap running_of w.self-is ∙ tick_crosses (running_of r) (crossing_to w.in-Some.plan 0) due refl _ _ _ _ s to.books (ap (course_of g.P.Policy) to.policy) none
      | in_default w ↦
          let m = moved g.P.Policy.meaning _ _ c.pass_slot-passed.ensures.policy in
          let later = rw w.in_default.is at c.come_nearer-plan.ensures.later in
          let not_now = not_due c.come_nearer-plan.result _ c.come_nearer-plan.ensures.due w.in_default.is in
          ap running_of w.self-is ∙ tick_goes_on (running_of r) _ _ _ s m later not_now
    ]
