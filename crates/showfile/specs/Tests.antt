-- What is asked of a show file: tests, one for each fault.
use Rattle.std.specs.Int.{from_be_bytes, w32}
use Rattle.std.specs.List.{list_all}
use Rattle.std.specs.Prelude.{ℕ, ◌+◌, ◌-◌, ◌*◌, ◌/◌, ◌%◌, Bool, ◌&&◌, if◌then◌else◌, List, ◌++◌, drop, length, map, take, ◌==◌, nat_le, nat_lt}
use Rattle.showfile.specs.Blocks.{sum_from}
use Rattle.showfile.specs.Spelling.{slot_block_count}
use Rattle.showfile.specs.Told.{byte_at, head, number_at, others, slot_bytes, slots_read, slots_told}

-- whole blocks, 2 to 67 of them
abbrev pub is_file_length : ℕ → Bool
is_file_length n = n % 512 == 0 && (nat_le 2 (n / 512) && nat_le (n / 512) 67)

-- the sum of a block is told in its last four bytes
abbrev pub has_sum : List ℕ → Bool
has_sum b = from_be_bytes w32 (drop 508 b) == sum_from 1 (take 508 b)

-- block 0 is of kind T, each other one of kind S
abbrev pub kind_of : (k : ℕ) → ℕ
kind_of k = if k == 0 then 84 else 83

-- a block has the kind and the number of block k
abbrev pub has_head : (k : ℕ) → List ℕ → Bool
has_head k b = byte_at 0 b == kind_of k && number_at 2 b == k

-- 1 to 32,767 slots, no more than there is room for, and a loop past slot 0 with both ends inside
abbrev pub numbers_fit : (slots first last room : ℕ) → Bool
numbers_fit slots first last room =
    nat_le 1 slots && (nat_le slots 32767 && (nat_le slots room
    && (nat_le 1 first && (nat_le first last && nat_lt last slots))))

-- all of them 0
abbrev pub are_zero : List ℕ → Bool
are_zero = list_all (λ b. b == 0)

-- the bytes in which nothing is told: byte 1 of each block, in the first block what lies past its
-- rows and past its numbers, and what lies past the slots
abbrev pub unused_in_head : (head : List ℕ) → List ℕ
unused_in_head head =
    take (80 - 5 * byte_at 4 head) (drop (5 + 5 * byte_at 4 head) head)
    ++ take 417 (drop 91 head)

abbrev pub unused : List (List ℕ) → List ℕ
unused bs =
    map (byte_at 1) bs ++ unused_in_head (head bs)
    ++ drop (slots_told (head bs)) (slot_bytes (others bs))

-- as many blocks as the slots take, and those bytes 0
abbrev pub rest_fits : List (List ℕ) → Bool
rest_fits bs = length (others bs) == slot_block_count (slots_told (head bs)) && are_zero (unused bs)

-- each slot names a row or none
abbrev pub slots_fit : List (List ℕ) → Bool
slots_fit bs = list_all (λ row. nat_le row (byte_at 4 (head bs))) (slots_read bs)
