use Rattle.std.proofs.Common.{length}
use Rattle.books.specs.Crossings.{late_fault}
use Rattle.readings.proofs.Firsts.{NoneBelow}
use Rattle.books.proofs.books.slot.check_late.Given as goal

abbrev pub invariant-loop-k : goal.invariant-loop-k
invariant-loop-k l = NoneBelow (late_fault l.rows) (length l.rows) l.k
