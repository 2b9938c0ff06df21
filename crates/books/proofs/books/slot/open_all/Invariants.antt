use Rattle.books.specs.Slots.{sampled}
use Rattle.books.proofs.Each.{TakenBelow}
use Rattle.books.proofs.books.slot.open_all.Given as goal

abbrev pub invariant-loop-k : goal.invariant-loop-k
invariant-loop-k l = TakenBelow (sampled l.samples) l.k l.initial.rows l.rows
