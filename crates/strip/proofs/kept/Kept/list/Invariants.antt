use Rattle.std.proofs.Common.{◌≡◌, length, map, take}
use Rattle.strip.proofs.Proposed.{proposed}
use Rattle.strip.proofs.kept.Kept.list.Given as goal

abbrev pub invariant-loop-k : goal.invariant-loop-k
invariant-loop-k l = record {
  filled : take l.k l.given ≡ map proposed (take l.k l.rows);
  long : length l.given ≡ 16;
}
