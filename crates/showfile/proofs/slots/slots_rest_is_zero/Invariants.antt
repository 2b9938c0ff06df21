-- What is left of the blocks is judged as all of them are.
use Rattle.std.proofs.Common.{◌≡◌, drop}
use Rattle.showfile.specs.Tests.{are_zero}
use Rattle.showfile.specs.Told.{slot_bytes}
use Rattle.showfile.proofs.slots.slots_rest_is_zero.Given as goal

abbrev pub invariant-loop-block : goal.invariant-loop-block
invariant-loop-block l =
    are_zero (drop l.left (slot_bytes (drop l.block-index l.blocks)))
    ≡ are_zero (drop l.fn.count (slot_bytes l.fn.blocks))
