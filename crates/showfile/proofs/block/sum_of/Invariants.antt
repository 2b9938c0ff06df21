-- A sum, byte by byte.
use Rattle.std.proofs.Common.{◌≡◌, ◌+◌, ◌*◌, ◌≤◌, drop}
use Rattle.showfile.specs.Blocks.{sum_from}
use Rattle.showfile.proofs.block.sum_of.Given as goal

-- the sum so far and that of the rest are the whole sum, and what was added is small
abbrev pub invariant-loop-k : goal.invariant-loop-k
invariant-loop-k l = record {
  told : l.sum + sum_from (l.k + 1) (drop l.k l.bytes) ≡ sum_from 1 l.bytes;
  small : l.sum ≤ 255 * 508 * l.k;
}
