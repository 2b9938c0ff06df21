use Rattle.std.proofs.Common.{false}
use Rattle.policy.proofs.Courses.{answered, differ, equal_agree}
use Rattle.policy.proofs.agree.same_answers.Goals as goal

pub returns-then-not-step_both : goal.returns-then-not-step_both
returns-then-not-step_both g c =
    let a = g.P.Policy.meaning.course (g.P.Policy.position c.args.p.now) in
    let b = g.Q.Policy.meaning.course (g.Q.Policy.position c.args.q.now) in
    let i = c.loop-slot.slot in
    let e = answered g.P.Policy.meaning.course g.Q.Policy.meaning.course (g.P.Policy.position c.loop-slot.left) (g.Q.Policy.position c.loop-slot.right) a b i c.step_both.result c.loop-slot.invariant.0 c.loop-slot.invariant.1 c.step_both.ensures.answers in
    let v = differ a b i c.args.slots c.step_both.result c.loop-slot-test.true e c.if-not-step_both.true in
    record { value = v; equal = equal_agree a b c.args.slots false v }
