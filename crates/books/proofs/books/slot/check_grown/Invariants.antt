use Rattle.std.proofs.Common.{length}
use Rattle.books.specs.Parts.{grown_fault}
use Rattle.readings.proofs.Firsts.{NoneBelow}
use Rattle.books.proofs.books.slot.check_grown.Given as goal

abbrev pub invariant-loop-k : goal.invariant-loop-k
invariant-loop-k l = NoneBelow (grown_fault l.rows) (length l.rows) l.k
