use Rattle.std.proofs.Common.{◌≡◌, length, map, take}
use Rattle.strip.specs.Positions.{resting}
use Rattle.strip.proofs.player.Player.new.Given as goal

abbrev pub invariant-loop-k : goal.invariant-loop-k
invariant-loop-k l = record {
  filled : take l.k l.rows ≡ map resting (take l.k l.readings);
  long : length l.rows ≡ 16;
}
