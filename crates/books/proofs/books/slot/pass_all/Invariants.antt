use Rattle.std.proofs.Common.{◌≡◌, ℕ, ◌≤◌, get_or}
use Rattle.books.specs.Parts.{passed}
use Rattle.books.specs.Rows.{blank_row}
use Rattle.books.proofs.Each.{TakenBelow}
use Rattle.books.proofs.Takes.{ShownBelow}
use Rattle.books.proofs.books.slot.pass_all.Given as goal

abbrev pub invariant-loop-k : goal.invariant-loop-k
invariant-loop-k l = record {
  taken : TakenBelow passed l.k l.initial.rows l.rows;
  rest : (j : ℕ) → l.k ≤ j → get_or l.rows j blank_row ≡ get_or l.initial.rows j blank_row;
  shown : ShownBelow l.k l.initial.rows l.shown;
}
