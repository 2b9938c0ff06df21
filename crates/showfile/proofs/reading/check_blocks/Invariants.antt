-- The blocks that are left are refused as all of them are.
use Rattle.std.proofs.Common.{◌≡◌, drop}
use Rattle.showfile.specs.Reading.{blocks_refusal}
use Rattle.showfile.proofs.reading.check_blocks.Given as goal

abbrev pub invariant-loop-k : goal.invariant-loop-k
invariant-loop-k l = blocks_refusal l.k (drop l.k l.blocks) ≡ blocks_refusal 0 l.fn.blocks
