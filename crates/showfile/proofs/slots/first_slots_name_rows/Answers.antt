-- The first block with a slot that names no row ends it.
use Rattle.std.proofs.Common.{ℕ, [], take, ◌∙◌, rules, arith}
use Rattle.std.specs.Prelude.{nat_le}
use Rattle.std.proofs.lemmas.List.{take_all}
use Rattle.showfile.proofs.Parts.{take_over}
use Rattle.showfile.proofs.SlotCuts.{ends, goes_on, one_fails}
use Rattle.showfile.proofs.slots.first_slots_name_rows.Goals as goal

pub returns-then-not-slots_name_rows : goal.returns-then-not-slots_name_rows
returns-then-not-slots_name_rows c =
    let l = c.loop-block in
    let test = λ (row : ℕ). nat_le row c.args.rows in
    one_fails take take_over c.args.blocks.now l.block-index l.left c.loop-block-test.true test (search rules)
    ∙ l.invariant

pub loop-block-preserved : goal.loop-block-preserved
loop-block-preserved c =
    let l = c.loop-block in
    let test = λ (row : ℕ). nat_le row c.args.rows in
    goes_on take take_over c.args.blocks.now l.block-index l.left c.loop-block-test.true test
    c.split_slots.result.0.now c.split_slots.ensures.used (search rules) ∙ l.invariant

pub returns : goal.returns
returns c =
    let l = c.loop-block in
    let test = λ (row : ℕ). nat_le row c.args.rows in
    let none = take_all l.left [] (omega arith) in
    ends take test c.args.blocks.now l.block-index l.left none (search rules) ∙ l.invariant
