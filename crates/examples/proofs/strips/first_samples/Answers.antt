use Rattle.std.proofs.Common.{◌≡◌, ℕ, ◌+◌, arith}
use Rattle.policy.specs.Policies.{course_of}
use Rattle.examples.proofs.Samples.{found_here, not_here, noted}
use Rattle.examples.proofs.strips.first_samples.Goals as goal
use Rattle.examples.proofs.strips.first_samples.Goals.{then-sampled-k-eq1+else-count-eq5, else-sampled-k-eq1}

pub returns-then-count-eq5-clause-some : goal.returns-then-count-eq5-clause-some
returns-then-count-eq5-clause-some g c =
    let five = c.if-count-eq5.true in
    let each = noted _ _ _ _ _ _ c.loop-slot.invariant _ c.step-sampled.ensures.answer c.if-sampled-k-eq1.true in (
      each 0 (omega (arith, five)),
      each 1 (omega (arith, five)),
      each 2 (omega (arith, five)),
      each 3 (omega (arith, five)),
      each 4 (omega (arith, five)),
    )

pub loop-slot-preserved : goal.loop-slot-preserved
loop-slot-preserved g c =
    let before = c.loop-slot.invariant in
    let answer = c.step-sampled.ensures.answer in
    let rest = course_of g.P.Policy c.loop-slot.policy in
    let later = course_of g.P.Policy c.step-sampled.new.self in
    let onward = g.P.Policy.meaning.onward (g.P.Policy.position c.loop-slot.policy) in
    let moved : (m : ℕ) → later m ≡ rest (m + 1) = λ m. rw (c.step-sampled.ensures.moved, course_of) (onward m) in
    elim c.if-sampled-k-eq1.branch [
      | then-sampled-k-eq1+else-count-eq5 w ↦
          let few = before.few in
          let more = w.if-count-eq5.false in
          rw (w.count-is, w.found-is)
          (found_here _ _ _ _ _ rest before _ answer later moved w.if-sampled-k-eq1.true (omega (arith, few, more)))
      | else-sampled-k-eq1 w ↦
          rw (w.count-is, w.found-is)
          (not_here _ _ _ _ _ rest before _ answer later moved w.if-sampled-k-eq1.false)
    ]
