-- What is left of the blocks is judged as all of them are.
use Rattle.std.proofs.Common.{◌≡◌, drop, take}
use Rattle.std.specs.List.{list_all}
use Rattle.std.specs.Prelude.{nat_le}
use Rattle.showfile.specs.Told.{slot_bytes}
use Rattle.showfile.proofs.slots.first_slots_name_rows.Given as goal

abbrev pub invariant-loop-block : goal.invariant-loop-block
invariant-loop-block l =
    list_all (λ row. nat_le row l.fn.rows) (take l.left (slot_bytes (drop l.block-index l.blocks)))
    ≡ list_all (λ row. nat_le row l.fn.rows) (take l.fn.count (slot_bytes l.fn.blocks))
