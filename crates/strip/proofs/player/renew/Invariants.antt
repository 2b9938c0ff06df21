use Rattle.strip.specs.Parts.{sampled}
use Rattle.books.proofs.Each.{TakenBelow}
use Rattle.strip.proofs.player.renew.Given as goal

abbrev pub invariant-loop-work : goal.invariant-loop-work
invariant-loop-work l = TakenBelow (sampled l.place l.row) l.work-index l.initial.rows l.rows
