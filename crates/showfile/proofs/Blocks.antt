-- The blocks of a file: how many, how long, and that they are found again in it.
use Rattle.std.proofs.Common.{◌≡◌, ℕ, zero, suc, ◌+◌, ◌*◌, ◌/◌, ◌≤◌, All, true, List, [], ◌∷◌, ◌++◌, length, take, drop, append-nil, refl, sym, ap, ◌∙◌, arith}
use Rattle.std.specs.Int.{to_be_bytes, w16, w32}
use Rattle.std.specs.List.{concat}
use Rattle.std.specs.Simd.{first_chunks}
use Rattle.std.proofs.lemmas.Bool.{and_parts, leb-true}
use Rattle.std.proofs.lemmas.List.{length-append, length-take, map-id}
use Rattle.std.proofs.lemmas.List.Concat.{concat_is}
use Rattle.std.proofs.lemmas.List.Elements.{All-cons, All-nil}
use Rattle.strip.specs.Strips.{Strip}
use Rattle.showfile.specs.Blocks.{block, padded, sum_from, with_sum}
use Rattle.showfile.specs.Tests.{is_file_length}
use Rattle.showfile.specs.Told.{blocks}
use Rattle.showfile.specs.Spelling.{blocks_of, head_block, head_body, slot_block_count, slot_blocks, spelling}
use Rattle.showfile.proofs.HeadBody.{length_body}
use Rattle.showfile.proofs.Pieces.{HasLength, cut_again, length_joined, pieces_length}
use Rattle.showfile.proofs.Zeros.{length_padded}

-- a file has as many blocks as 512 bytes fit in it
pub file_blocks : (file : List ℕ) → length (blocks file) ≡ length file / 512
file_blocks file = pieces_length 512 (length file / 512) file

-- at most 67, where its length is that of a show file
pub most_blocks : (file : List ℕ) → is_file_length (length file) ≡ true → length (blocks file) ≤ 67
most_blocks file e =
    let within = and_parts _ _ (and_parts _ _ e).1 in
    let most : length file / 512 ≤ 67 = leb-true _ _ within.1 in
    omega (arith, file_blocks file, most)

-- a sum takes four bytes more
length_summed : (bytes : List ℕ) → length (with_sum bytes) ≡ length bytes + 4
length_summed bytes = length-append bytes (to_be_bytes w32 (sum_from 1 bytes))

-- bytes are as many as a block has
abbrev pub IsWhole : List ℕ → Type 0
IsWhole = HasLength (λ b. b) 512

-- a block has 512 bytes
block_whole : (kind number : ℕ) (body : List ℕ) → length body ≤ 504 → IsWhole (block kind number body)
block_whole kind number body h =
    let front = kind ∷ 0 ∷ (to_be_bytes w16 number ++ body) in
    omega (arith, length_summed (padded 508 front), length_padded 508 front (omega arith))

-- each block of slots has so many
slot_blocks_whole : (k count : ℕ) (slots : List ℕ) → All IsWhole (slot_blocks k count slots)
slot_blocks_whole k zero slots = All-nil IsWhole
slot_blocks_whole k (suc n) slots =
    let whole = block_whole 83 k (take 504 slots) (omega (arith, length-take 504 slots)) in
    let rest = drop 504 slots in
    All-cons IsWhole (block 83 k (take 504 slots)) (slot_blocks (k + 1) n rest) whole (slot_blocks_whole (k + 1) n rest)

-- so many blocks are made as are asked for
pub length_slot_blocks : (k count : ℕ) (slots : List ℕ) → length (slot_blocks k count slots) ≡ count
length_slot_blocks k zero slots = refl
length_slot_blocks k (suc n) slots = ap suc (length_slot_blocks (k + 1) n (drop 504 slots))

-- each block of a strip has 512
blocks_whole : (s : Strip) → length s.rows ≤ 16 → All IsWhole (blocks_of s)
blocks_whole s h =
    let count = slot_block_count (length s.slots) in
    let whole = block_whole 84 0 (head_body s) (omega (arith, length_body s h)) in
    All-cons IsWhole (head_block s) (slot_blocks 1 count s.slots) whole (slot_blocks_whole 1 count s.slots)

-- a spelling has 512 bytes a block: the first, and one for each 504 slots or part of them
pub length_spelling : (s : Strip) → length s.rows ≤ 16 → length (spelling s) ≡ 512 * (1 + slot_block_count (length s.slots))
length_spelling s h =
    let long = length_joined (λ b. b) 512 (blocks_of s) (blocks_whole s h) in
    omega (arith, ap length (concat_is (blocks_of s)), length_slot_blocks 1 (slot_block_count (length s.slots)) s.slots)

-- blocks that are joined are cut again
blocks_cut : (bs : List (List ℕ)) → All IsWhole bs → blocks (concat bs) ≡ bs
blocks_cut bs h =
    let file = concat bs in
    let joined = concat_is bs in
    let long = length_joined (λ b. b) 512 bs h in
    let count : length file / 512 ≡ length bs = omega (arith, ap length joined) in
    let cut = cut_again (λ b. b) 512 bs [] h in
    rw count (ap (first_chunks 512 (length bs)) (joined ∙ sym (append-nil _)) ∙ cut ∙ map-id bs)

-- the blocks of a spelling are those of the strip
pub blocks_again : (s : Strip) → length s.rows ≤ 16 → blocks (spelling s) ≡ blocks_of s
blocks_again s h = blocks_cut (blocks_of s) (blocks_whole s h)
