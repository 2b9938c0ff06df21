-- The slots of the next block stand behind those that are filled; with all blocks the memory is full.
use Rattle.std.proofs.Common.{◌≡◌, ℕ, ◌-◌, ◌+◌, ◌≤◌, length, take, ap, sym, ◌∙◌, rules, arith}
use Rattle.std.specs.Prelude.{[], slice_index_or}
use Rattle.std.proofs.lemmas.List.{length-take}
use Rattle.std.proofs.lemmas.List.Elements.{All-from_get_or}
use Rattle.std.proofs.lemmas.Slice.{take-put_mid}
use Rattle.showfile.specs.Told.{block_slots, slot_bytes}
use Rattle.showfile.proofs.Blocks.{IsWhole}
use Rattle.showfile.proofs.SlotCuts.{filled_on, filled_up, slot_bytes_length}
use Rattle.showfile.proofs.slots.fill.Goals as goal

pub loop-block-preserved : goal.loop-block-preserved
loop-block-preserved c =
    let blocks = c.args.blocks.now in
    let i = c.loop-block.block-index in
    let memory = c.loop-block.memory in
    let filled = c.loop-block.filled in
    let slots = c.split_slots.result.0.now in
    let new = c.copy_from_slice.new.self in
    let n = length c.args.memory.now in
    let here = block_slots (slice_index_or blocks i []) in
    let used = c.split_slots.ensures.used ∙ ap (λ (k : ℕ). take (k - filled) here) c.loop-block.auto.memory in
    let written : new ≡ slots = search rules in
    let end = ap (λ xs. filled + length xs) (sym written) in
    let front = take-put_mid filled (filled + length slots - filled) memory new (filled + length slots) end (omega arith) in
    let on = filled_on blocks i n filled (take filled memory) slots c.loop-block-test.true used c.loop-block.invariant.1 in (
      omega (arith, ap length used, length-take (n - filled) here),
      rw (front, written) on,
    )

pub returns : goal.returns
returns c =
    let blocks = c.args.blocks.now in
    let memory = c.loop-block.memory in
    let n = c.loop-block.auto.memory in
    let whole = All-from_get_or IsWhole blocks [] c.told-blocks in
    let room : length memory ≤ length (slot_bytes blocks) = omega (arith, n, c.requires, slot_bytes_length blocks whole) in
    let filled = c.loop-block.filled in
    let within : filled ≤ length memory = omega (arith, n, c.loop-block.invariant.0) in
    let full = filled_up blocks c.loop-block.block-index filled memory c.loop-block-test.false room within in
    rw (← n) (full (rw n c.loop-block.invariant.1))
