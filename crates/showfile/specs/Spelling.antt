-- What a show file spells: a closed strip.
use Rattle.std.specs.Int.{to_be_bytes, w16}
use Rattle.std.specs.List.{concat, flat_map}
use Rattle.std.specs.Prelude.{ℕ, zero, suc, ◌+◌, ◌/◌, List, [], ◌∷◌, ◌++◌, drop, length, take}
use Rattle.readings.specs.declared.reading.Reading.{Reading}
use Rattle.strip.specs.Strips.{Strip}
use Rattle.showfile.specs.Blocks.{block, padded}

-- a row: its id, its work length and its validity
abbrev pub row : Reading → List ℕ
row r = to_be_bytes w16 r.id ++ r.work ∷ to_be_bytes w16 r.validity

-- the body of the first block: how many rows, the rows, with zeros up to 80 bytes of them, how many
-- slots, the first slot of the loop and its last
abbrev pub head_body : Strip → List ℕ
head_body s =
    length s.rows ∷ padded 80 (flat_map row s.rows)
    ++ to_be_bytes w16 (length s.slots)
    ++ to_be_bytes w16 s.first
    ++ to_be_bytes w16 s.last

-- the first block, of kind T
abbrev pub head_block : Strip → List ℕ
head_block s = block 84 0 (head_body s)

-- how many blocks n slots take, 504 each
abbrev pub slot_block_count : (n : ℕ) → ℕ
slot_block_count n = (n + 503) / 504

-- so many blocks of kind S, numbered from k on, with the slots in order
abbrev pub slot_blocks : (k count : ℕ) → (slots : List ℕ) → List (List ℕ)
slot_blocks k zero slots = []
slot_blocks k (suc n) slots = block 83 k (take 504 slots) ∷ slot_blocks (k + 1) n (drop 504 slots)

-- the blocks of a strip: the first, and as many behind it as its slots take
abbrev pub blocks_of : Strip → List (List ℕ)
blocks_of s = head_block s ∷ slot_blocks 1 (slot_block_count (length s.slots)) s.slots

-- the show file of a strip: its blocks, one behind the other
abbrev pub spelling : Strip → List ℕ
spelling s = concat (blocks_of s)
