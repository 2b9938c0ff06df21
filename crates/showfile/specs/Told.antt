-- What the blocks of a show file tell, wherever it stands in them.
use Rattle.std.specs.Int.{from_be_bytes, w16}
use Rattle.std.specs.List.{flat_map}
use Rattle.std.specs.Prelude.{ℕ, ◌/◌, List, [], drop, length, map, slice_index, slice_index_or, take}
use Rattle.std.specs.Simd.{first_chunks}
use Rattle.readings.specs.Proposals.{kept}
use Rattle.readings.specs.declared.reading.Proposal.{Proposal}
use Rattle.strip.specs.Strips.{Strip}

-- the blocks of a file, 512 bytes each
abbrev pub blocks : List ℕ → List (List ℕ)
blocks file = first_chunks 512 (length file / 512) file

-- the first block, and those behind it
abbrev pub head : List (List ℕ) → List ℕ
head bs = slice_index_or bs 0 []

abbrev pub others : List (List ℕ) → List (List ℕ)
others bs = drop 1 bs

-- the byte at a place, and the number of the two bytes from there on
abbrev pub byte_at : (place : ℕ) → List ℕ → ℕ
byte_at place bytes = slice_index bytes place

abbrev pub number_at : (place : ℕ) → List ℕ → ℕ
number_at place bytes = from_be_bytes w16 (take 2 (drop place bytes))

-- the rows that the first block has, five bytes each from byte 5 on: id, work length, validity
abbrev pub row_read : List ℕ → Proposal
row_read bytes =
    record { id = number_at 0 bytes; work = byte_at 2 bytes; validity = number_at 3 bytes }

abbrev pub rows_read : (head : List ℕ) → List Proposal
rows_read head = map row_read (first_chunks 5 (byte_at 4 head) (drop 5 head))

-- how many slots it tells, and the first and the last slot of the loop
abbrev pub slots_told : (head : List ℕ) → ℕ
slots_told head = number_at 85 head

abbrev pub first_told : (head : List ℕ) → ℕ
first_told head = number_at 87 head

abbrev pub last_told : (head : List ℕ) → ℕ
last_told head = number_at 89 head

-- the bytes for slots of a block: 504 from byte 4 on
abbrev pub block_slots : (block : List ℕ) → List ℕ
block_slots b = take 504 (drop 4 b)

-- those of the blocks behind the first, one behind the other
abbrev pub slot_bytes : (others : List (List ℕ)) → List ℕ
slot_bytes bs = flat_map block_slots bs

-- the slots: as many of them as the first block tells
abbrev pub slots_read : List (List ℕ) → List ℕ
slots_read bs = take (slots_told (head bs)) (slot_bytes (others bs))

-- the strip that blocks tell
abbrev pub strip_read : List (List ℕ) → Strip
strip_read bs =
    record {
      rows = map kept (rows_read (head bs));
      slots = slots_read bs;
      first = first_told (head bs);
      last = last_told (head bs);
    }
