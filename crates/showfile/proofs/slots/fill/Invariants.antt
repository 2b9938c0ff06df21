-- What is filled, with the slots of the blocks that are left, is what is to be filled; behind it stand the old bytes.
use Rattle.std.proofs.Common.{◌≡◌, ◌-◌, ◌≤◌, ◌++◌, length, take}
use Rattle.showfile.specs.Told.{slot_bytes}
use Rattle.showfile.proofs.SlotCuts.{slots_from}
use Rattle.showfile.proofs.slots.fill.Given as goal

abbrev pub invariant-loop-block : goal.invariant-loop-block
invariant-loop-block l =
    let n = length l.fn.memory in
    let left = slots_from l.blocks l.block-index in
    (l.filled ≤ n) × (take l.filled l.memory ++ take (n - l.filled) left ≡ take n (slot_bytes l.fn.blocks))
