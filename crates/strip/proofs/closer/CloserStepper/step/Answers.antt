use Rattle.std.proofs.Common.{◌+◌, arith}
use Rattle.books.specs.Held.{rows_of}
use Rattle.strip.proofs.WalkedOn.{walked_on}
use Rattle.strip.proofs.closer.CloserStepper.step.Goals as goal

pub invariant_of-self-then-from-self : goal.invariant_of-self-then-from-self
invariant_of-self-then-from-self c =
    let s = c.args.self.now in
    record { law = walked_on s.slots.now s.place (s.place + 1) c.answer-answer.result (rows_of s.books) (rows_of c.take.new.self) (omega arith) c.in_ok-take.ensures.ok s.law }

pub invariant_of-self-else-from-self : goal.invariant_of-self-else-from-self
invariant_of-self-else-from-self c =
    let s = c.args.self.now in
    record { law = walked_on s.slots.now s.place s.place c.answer-answer.result (rows_of s.books) (rows_of c.take.new.self) s.law.here c.in_ok-take.ensures.ok s.law }
