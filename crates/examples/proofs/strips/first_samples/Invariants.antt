use Rattle.policy.specs.Policies.{course_of}
use Rattle.examples.proofs.Samples.{FoundBefore}
use Rattle.examples.proofs.strips.first_samples.Given as goal

abbrev pub invariant-loop-slot : goal.invariant-loop-slot
invariant-loop-slot g l =
    FoundBefore (course_of g.P.Policy l.initial.policy) l.k l.slot l.count l.found
    (course_of g.P.Policy l.policy)
