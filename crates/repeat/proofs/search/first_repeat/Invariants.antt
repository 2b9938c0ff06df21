use Rattle.repeat.proofs.UnderWay.{UnderWay}
use Rattle.repeat.specs.SearchStep.{states_of}
use Rattle.repeat.proofs.search.first_repeat.Given as goal

abbrev pub invariant-loop-slot : goal.invariant-loop-slot
invariant-loop-slot g l =
    let m = g.S.Stepper in
    UnderWay m.meaning (m.state l.start) l.slot (states_of m.state l.search)
