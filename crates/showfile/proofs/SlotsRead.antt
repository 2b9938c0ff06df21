-- The blocks behind the first are spelled by the slots that they tell.
use Rattle.std.proofs.Common.{◌≡◌, ℕ, ◌+◌, ◌-◌, ◌≤◌, min, cond, true, List, [], ◌∷◌, ◌++◌, length, drop, take, refl, sym, ap, ap₂, ◌∙◌, arith}
use Rattle.std.proofs.lemmas.Bool.{ne_eqb}
use Rattle.std.proofs.lemmas.List.{length-append, length-take}
use Rattle.showfile.specs.Blocks.{block}
use Rattle.showfile.specs.Tests.{are_zero, kind_of}
use Rattle.showfile.specs.Told.{block_slots, slot_bytes}
use Rattle.showfile.specs.Spelling.{slot_blocks}
use Rattle.showfile.proofs.BlockRead.{block_spelled}
use Rattle.showfile.proofs.Next.{next_length}
use Rattle.showfile.proofs.Parts.{cut_there, drop_over, take_over}
use Rattle.showfile.proofs.Unrefused.{AreBlocks}
use Rattle.showfile.proofs.Zeros.{both_zero, padded_told}

-- past block 0 a block is of kind S
kind_past : (k : ℕ) → 1 ≤ k → 83 ≡ kind_of k
kind_past k low = sym (ap (λ t. cond t 84 83) (ne_eqb k 0 (λ e. omega arith)))

-- blocks are those of the first n of their slots, where all bytes behind these are 0
pub slots_spelled : (k : ℕ) (bs : List (List ℕ)) (n : ℕ) → 1 ≤ k → AreBlocks k bs → are_zero (drop n (slot_bytes bs)) ≡ true
    → slot_blocks k (length bs) (take n (slot_bytes bs)) ≡ bs
slots_spelled k [] n low are unused = refl
slots_spelled k (b ∷ bs) n low are unused =
    let here = block_slots b in
    let there = slot_bytes bs in
    let more = n - length (take n here) in
    let size = next_length 4 504 b (omega (arith, are.0.whole)) in
    let zero_parts = both_zero (drop n here) (drop more there) (ap are_zero (sym (drop_over n here there)) ∙ unused) in
    let long : length (take n here) ≡ min 504 (length (take n (here ++ there)))
    = omega (arith, size, length-take n here, length-take n (here ++ there), length-append here there) in
    let cut = cut_there 504 (take n (here ++ there)) (take n here) (take more there) (take_over n here there) long in
    let kind = ap (λ (kind : ℕ). block kind k (take n here)) (kind_past k low) in
    let first = block_spelled k b are.0 (take n here) (padded_told 504 n here size zero_parts.0) in
    let rest = slots_spelled (k + 1) bs more (omega arith) are.1 zero_parts.1 in
    ap₂ ◌∷◌ (ap (block 83 k) cut.0 ∙ kind ∙ sym first) (ap (slot_blocks (k + 1) (length bs)) cut.1 ∙ rest)
