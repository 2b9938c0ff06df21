use Rattle.std.proofs.Common.{◌≡◌, map, length, take}
use Rattle.books.specs.Rows.{come_on}
use Rattle.books.proofs.books.Books.new.Given as goal

abbrev pub invariant-loop-k : goal.invariant-loop-k
invariant-loop-k l = record {
  filled : take l.k l.rows ≡ map come_on (take l.k l.readings);
  long : length l.rows ≡ 16;
}
