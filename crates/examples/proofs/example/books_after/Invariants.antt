use Rattle.policy.specs.Policies.{course_of}
use Rattle.readings.specs.Lists.{rows_of}
use Rattle.examples.specs.Runs.{StandsAfter}
use Rattle.examples.proofs.example.books_after.Given as goal

abbrev pub invariant-loop-slot : goal.invariant-loop-slot
invariant-loop-slot g l =
    StandsAfter (course_of g.P.Policy l.initial.policy) (rows_of l.list) l.slot-counter l.books
    (course_of g.P.Policy l.policy)
