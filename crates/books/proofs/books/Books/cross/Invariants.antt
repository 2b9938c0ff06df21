use Rattle.std.proofs.Common.{◌≡◌, length, take}
use Rattle.books.specs.Crossings.{crossed}
use Rattle.books.specs.Held.{rows_of}
use Rattle.books.proofs.books.Books.cross.Given as goal

abbrev pub invariant-loop-k : goal.invariant-loop-k
invariant-loop-k l = record {
  filled : take l.k l.rows ≡ crossed (rows_of l.self) (take l.k l.given);
  long : length l.rows ≡ 16;
}
