use Rattle.books.specs.Slots.{sample_fault}
use Rattle.readings.proofs.Firsts.{NoneBelow}
use Rattle.books.proofs.books.slot.check_samples.Given as goal

abbrev pub invariant-loop-k : goal.invariant-loop-k
invariant-loop-k l = NoneBelow (sample_fault l.samples l.rows) 16 l.k
