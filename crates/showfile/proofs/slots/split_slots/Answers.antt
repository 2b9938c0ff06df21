-- A block has 504 bytes for slots, so more of them than that are all of them.
use Rattle.std.proofs.Common.{◌≡◌, ℕ, min, drop, ap, sym, ◌∙◌, rules, arith}
use Rattle.std.proofs.lemmas.List.{drop_min}
use Rattle.showfile.specs.Told.{block_slots}
use Rattle.showfile.proofs.Next.{next_length}
use Rattle.showfile.proofs.slots.split_slots.Goals as goal

pub returns-clause-rest : goal.returns-clause-rest
returns-clause-rest c =
    let slots = block_slots c.args.block.now in
    let long = next_length 4 504 c.args.block.now (omega (arith, c.told-block)) in
    let back : c.split_at-2.result.1.now ≡ drop (min c.args.count 504) slots = search rules in
    back ∙ ap (λ (n : ℕ). drop (min c.args.count n) slots) (sym long) ∙ drop_min c.args.count slots
