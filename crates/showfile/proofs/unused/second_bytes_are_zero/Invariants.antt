-- What is left of the blocks is judged as all of them are.
use Rattle.std.proofs.Common.{◌≡◌, drop, map}
use Rattle.showfile.specs.Tests.{are_zero}
use Rattle.showfile.specs.Told.{byte_at}
use Rattle.showfile.proofs.unused.second_bytes_are_zero.Given as goal

abbrev pub invariant-loop-block : goal.invariant-loop-block
invariant-loop-block l =
    are_zero (map (byte_at 1) (drop l.block-index l.blocks)) ≡ are_zero (map (byte_at 1) l.fn.blocks)
