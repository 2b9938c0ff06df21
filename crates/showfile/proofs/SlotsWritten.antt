-- The blocks of slots, written one by one as the slots are cut.
use Rattle.std.proofs.Common.{◌≡◌, ℕ, suc, ◌+◌, ◌*◌, ◌<◌, ◌≤◌, min, List, ◌++◌, length, take, append_assoc, sym, ap, ◌∙◌, arith}
use Rattle.std.specs.List.{concat}
use Rattle.std.proofs.lemmas.List.{length-append}
use Rattle.std.proofs.lemmas.Slice.{take-put_mid}
use Rattle.showfile.specs.Blocks.{block}
use Rattle.showfile.specs.Spelling.{slot_block_count, slot_blocks}
use Rattle.showfile.proofs.Parts.{cut_there}
use borrow.Rule.Slice.PartMut.{put_mid}

-- the slots from number k on take so many blocks
abbrev pub joined_from : (k : ℕ) → (slots : List ℕ) → List ℕ
joined_from k slots = concat (slot_blocks k (slot_block_count (length slots)) slots)

-- what is cut from the front of some slots: 504 of them, or all
pub record IsFront (slots part rest : List ℕ) : Type 0 where
  pub parts : slots ≡ part ++ rest
  pub size : length part ≡ min 504 (length slots)
  pub some : 0 < length slots

-- it takes one block, and the rest take the others
pub count_more : (slots part rest : List ℕ) → IsFront slots part rest
    → slot_block_count (length slots) ≡ suc (slot_block_count (length rest))
count_more slots part rest h = omega (arith, ap length h.parts, length-append part rest)

-- the block of what is cut, and the blocks of the rest
joined_more : (k : ℕ) (slots part rest : List ℕ) → IsFront slots part rest
    → joined_from k slots ≡ block 83 k part ++ joined_from (k + 1) rest
joined_more k slots part rest h =
    let cut = cut_there 504 slots part rest h.parts h.size in
    rw (count_more slots part rest h, cut.0, cut.1)

-- one block more is written behind those before it
pub block_written : (k i next width : ℕ) (slots part rest file written all : List ℕ)
    → i ≡ k → next ≡ k + 1 → IsFront slots part rest → 512 * k ≤ length file
    → length written ≡ 512 → written ≡ block 83 (i + 1) part → take (512 * k) file ++ joined_from (k + 1) slots ≡ all
    → take (512 * next) (put_mid (512 * i) width file written) ++ joined_from (next + 1) rest ≡ all
block_written k i next width slots part rest file written all here then h inside long w so_far =
    let done = take (512 * k) file in
    let others = joined_from (k + 1 + 1) rest in
    let front = take-put_mid (512 * k) width file written (512 * (k + 1)) (omega arith) inside in
    let more : written ++ others ≡ joined_from (k + 1) slots =
    rw (w, here) (sym (joined_more (k + 1) slots part rest h)) in
    rw (here, then, front) (append_assoc done written others ∙ ap (λ (bytes : List ℕ). done ++ bytes) more ∙ so_far)
