-- The slots of a strip are found again in the blocks that are spelled for them.
use Rattle.std.proofs.Common.{◌≡◌, ℕ, zero, suc, ◌+◌, ◌*◌, ◌^◌, ◌≤◌, true, List, [], ◌∷◌, ◌++◌, length, map, take, drop, None, refl, ap, ap₂, ◌∙◌, arith}
use Rattle.std.proofs.lemmas.Bool.{ne_eqb}
use Rattle.std.proofs.lemmas.List.{length-drop, length-take}
use Rattle.std.proofs.lemmas.List.Elements.{All-drop, All-take}
use Rattle.showfile.specs.Blocks.{block, padded}
use Rattle.showfile.specs.Reading.{block_refusal, blocks_refusal}
use Rattle.showfile.specs.Tests.{are_zero}
use Rattle.showfile.specs.Told.{byte_at, slot_bytes}
use Rattle.showfile.specs.Spelling.{slot_blocks}
use Rattle.showfile.proofs.BlockAgain.{body_again, unrefused_block}
use Rattle.showfile.proofs.Bytes.{AreBytes, IsByte}
use Rattle.showfile.proofs.Unless.{both_clear}
use Rattle.showfile.proofs.Zeros.{padded_on}

-- no block of slots is refused
pub slots_unrefused : (k count : ℕ) (slots : List ℕ) → 1 ≤ k → k + count ≤ 2 ^ 16 → AreBytes slots
    → blocks_refusal k (slot_blocks k count slots) ≡ None
slots_unrefused k zero slots from few h = refl
slots_unrefused k (suc n) slots from few h =
    let body = take 504 slots in
    let rest = drop 504 slots in
    let not_first = ne_eqb k 0 (λ e. omega arith) in
    let short = length-take 504 slots in
    let one = unrefused_block 83 k body (rw not_first) (omega arith) (omega arith) (omega arith) (All-take IsByte 504 slots h) in
    let more = slots_unrefused (k + 1) n rest (omega arith) (omega arith) (All-drop IsByte 504 slots h) in
    both_clear (block_refusal k (block 83 k body)) (blocks_refusal (k + 1) (slot_blocks (k + 1) n rest)) one more

-- their bytes for slots are the slots, with zeros behind them
pub slot_bytes_again : (k count : ℕ) (slots : List ℕ) → length slots ≤ 504 * count
    → slot_bytes (slot_blocks k count slots) ≡ padded (504 * count) slots
slot_bytes_again k zero [] h = refl
slot_bytes_again k zero (x ∷ xs) h = absurd (omega arith)
slot_bytes_again k (suc n) slots h =
    let one = body_again 83 k (take 504 slots) (omega (arith, length-take 504 slots)) in
    let more = slot_bytes_again (k + 1) n (drop 504 slots) (omega (arith, length-drop 504 slots)) in
    let all : 504 + 504 * n ≡ 504 * suc n = omega arith in
    ap₂ (λ (a b : List ℕ). a ++ b) one more ∙ padded_on 504 (504 * n) slots ∙ ap (λ (k : ℕ). padded k slots) all

-- byte 1 of each is 0
pub unused_again : (k count : ℕ) (slots : List ℕ) → are_zero (map (byte_at 1) (slot_blocks k count slots)) ≡ true
unused_again k zero slots = refl
unused_again k (suc n) slots = unused_again (k + 1) n (drop 504 slots)
