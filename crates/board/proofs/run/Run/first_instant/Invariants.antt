use Rattle.policy.specs.Policies.{course_of}
use Rattle.books.specs.Held.{rows_of}
use Rattle.readings.specs.Lists.{rows_of as readings_of}
use Rattle.walk.specs.Plans.{finishes_of, list_of}
use Rattle.board.proofs.Window.{Ahead}
use Rattle.board.proofs.run.Run.first_instant.Given as goal

abbrev pub invariant-loop-ticks : goal.invariant-loop-ticks
invariant-loop-ticks g l =
    Ahead (course_of g.P.Policy l.self.policy) (rows_of l.self.books) (readings_of (list_of l.plan)) (finishes_of l.plan)
    l.ticks (course_of g.P.Policy l.policy) (rows_of l.books)
