use Rattle.std.proofs.Common.{◌≡◌, ℕ, ◌+◌, true}
use Rattle.policy.specs.Course.{agree_for}
use Rattle.policy.proofs.agree.same_answers.Given as goal

abbrev pub invariant-loop-slot : goal.invariant-loop-slot
invariant-loop-slot g l =
    ((m : ℕ) → g.P.Policy.meaning.course (g.P.Policy.position l.left) m ≡ g.P.Policy.meaning.course (g.P.Policy.position l.p) (l.slot + m))
    × ((m : ℕ) → g.Q.Policy.meaning.course (g.Q.Policy.position l.right) m ≡ g.Q.Policy.meaning.course (g.Q.Policy.position l.q) (l.slot + m))
    × (agree_for (g.P.Policy.meaning.course (g.P.Policy.position l.p)) (g.Q.Policy.meaning.course (g.Q.Policy.position l.q)) l.slot ≡ true)
