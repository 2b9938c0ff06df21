-- The first block with a byte that is not 0 ends it.
use Rattle.std.proofs.Common.{ℕ, [], drop, ◌∙◌, rules, arith}
use Rattle.std.specs.Prelude.{◌==◌}
use Rattle.std.proofs.lemmas.List.{drop_all}
use Rattle.showfile.proofs.Parts.{drop_over}
use Rattle.showfile.proofs.SlotCuts.{ends, goes_on, one_fails}
use Rattle.showfile.proofs.slots.slots_rest_is_zero.Goals as goal

pub returns-then-not-are_zero : goal.returns-then-not-are_zero
returns-then-not-are_zero c =
    let l = c.loop-block in
    let test = λ (b : ℕ). b == 0 in
    one_fails drop drop_over c.args.blocks.now l.block-index l.left c.loop-block-test.true test (search rules)
    ∙ l.invariant

pub loop-block-preserved : goal.loop-block-preserved
loop-block-preserved c =
    let l = c.loop-block in
    let test = λ (b : ℕ). b == 0 in
    goes_on drop drop_over c.args.blocks.now l.block-index l.left c.loop-block-test.true test
    c.split_slots.result.0.now c.split_slots.ensures.used (search rules) ∙ l.invariant

pub returns : goal.returns
returns c =
    let l = c.loop-block in
    let test = λ (b : ℕ). b == 0 in
    let none = drop_all l.left [] (omega arith) in
    ends drop test c.args.blocks.now l.block-index l.left none (search rules) ∙ l.invariant
