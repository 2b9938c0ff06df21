use Rattle.std.proofs.Common.{◌≡◌, map, length, take}
use Rattle.periodic.specs.Phases.{begun}
use Rattle.periodic.proofs.periodic.Periodic.new.Given as goal

abbrev pub invariant-loop-k : goal.invariant-loop-k
invariant-loop-k l = record {
  filled : take l.k l.phases ≡ map begun (take l.k l.rows);
  long : length l.phases ≡ 16;
}
