-- What blocks without a refusal hold, part by part.
use Rattle.std.proofs.Common.{◌≡◌, ℕ, zero, suc, ◌+◌, ◌*◌, ◌<◌, ◌≤◌, All, true, List, [], ◌∷◌, ◌++◌, length, drop, map, take, None, arith}
use Rattle.std.specs.Simd.{first_chunks}
use Rattle.std.proofs.lemmas.Bool.{and_parts, eqb-true, leb-true, ltb-true}
use Rattle.std.proofs.lemmas.List.{length-drop, length-take-le}
use Rattle.std.proofs.lemmas.List.Elements.{All-cons, All-drop, All-nil, All-take}
use Rattle.readings.specs.Proposals.{list_refusal}
use Rattle.readings.proofs.Firsts.{or_clear}
use Rattle.showfile.specs.Reading.{blocks_refusal, content_refusal}
use Rattle.showfile.specs.Tests.{are_zero, numbers_fit, rest_fits, slots_fit, unused_in_head}
use Rattle.showfile.specs.Told.{byte_at, first_told, head, last_told, others, rows_read, slot_bytes, slots_told}
use Rattle.showfile.specs.Spelling.{slot_block_count}
use Rattle.showfile.proofs.BlockRead.{IsBlock}
use Rattle.showfile.proofs.Blocks.{IsWhole}
use Rattle.showfile.proofs.Bytes.{AreBytes, IsByte}
use Rattle.showfile.proofs.Unless.{passed}
use Rattle.showfile.proofs.Zeros.{both_zero}

-- 1 to 32,767 slots, no more than there is room for, and a loop past slot 0 with both ends inside
pub record NumbersFit (h : List ℕ) (room : ℕ) : Type 0 where
  pub some : 1 ≤ slots_told h
  pub few : slots_told h ≤ 32767
  pub fit : slots_told h ≤ room
  pub from_one : 1 ≤ first_told h
  pub ordered : first_told h ≤ last_told h
  pub inside : last_told h < slots_told h

-- so it is with numbers that pass the test
numbers_told : (h : List ℕ) (room : ℕ) → numbers_fit (slots_told h) (first_told h) (last_told h) room ≡ true → NumbersFit h room
numbers_told h room e =
    let some = and_parts _ _ e in
    let few = and_parts _ _ some.1 in
    let fit = and_parts _ _ few.1 in
    let from_one = and_parts _ _ fit.1 in
    let last = and_parts _ _ from_one.1 in
    record {
      some = leb-true _ _ some.0;
      few = leb-true _ _ few.0;
      fit = leb-true _ _ fit.0;
      from_one = leb-true _ _ from_one.0;
      ordered = leb-true _ _ last.0;
      inside = ltb-true _ _ last.1;
    }

-- each block is clear, so is the list, the numbers fit, the blocks are as many as the slots take, the
-- bytes that nothing is told in are 0, and the slots fit
pub record IsUnrefused (bs : List (List ℕ)) (room : ℕ) : Type 0 where
  pub each : blocks_refusal 0 bs ≡ None
  pub list : list_refusal (rows_read (head bs)) ≡ None
  pub numbers : NumbersFit (head bs) room
  pub count : length (others bs) ≡ slot_block_count (slots_told (head bs))
  pub unused : are_zero (map (byte_at 1) bs) ≡ true
  pub unused_in_head : are_zero (unused_in_head (head bs)) ≡ true
  pub unused_slots : are_zero (drop (slots_told (head bs)) (slot_bytes (others bs))) ≡ true
  pub slots : slots_fit bs ≡ true

-- so it is with blocks that are not refused
pub unrefused : (bs : List (List ℕ)) (room : ℕ) → content_refusal bs room ≡ None → IsUnrefused bs room
unrefused bs room e =
    let each = or_clear _ _ e in
    let list = or_clear _ _ each.1 in
    let numbers = or_clear _ _ list.1 in
    let last = or_clear _ _ numbers.1 in
    let ones = map (byte_at 1) bs in
    let in_head = unused_in_head (head bs) in
    let rest = and_parts _ _ (passed (rest_fits bs) _ last.0) in
    let zero_parts = both_zero (ones ++ in_head) (drop (slots_told (head bs)) (slot_bytes (others bs))) rest.1 in
    let zero_front = both_zero ones in_head zero_parts.0 in
    record {
      each = each.0;
      list = list.0;
      numbers = numbers_told (head bs) room (passed _ _ numbers.0);
      count = eqb-true _ _ rest.0;
      unused = zero_front.0;
      unused_in_head = zero_front.1;
      unused_slots = zero_parts.1;
      slots = passed _ _ last.1;
    }

-- they are blocks, numbered from k on
abbrev pub AreBlocks : (k : ℕ) → List (List ℕ) → Type 0
AreBlocks k [] = Unit {0}
AreBlocks k (b ∷ bs) = IsBlock k b × AreBlocks (k + 1) bs

-- so it is with pieces of bytes where no piece is refused and byte 1 of each is 0
pub are_blocks : (k count : ℕ) (xs : List ℕ) → AreBytes xs → count * 512 ≤ length xs
    → blocks_refusal k (first_chunks 512 count xs) ≡ None → are_zero (map (byte_at 1) (first_chunks 512 count xs)) ≡ true
    → AreBlocks k (first_chunks 512 count xs)
are_blocks k zero xs bytes h clear unused = tt
are_blocks k (suc count) xs bytes h clear unused =
    let more : suc count * 512 ≡ 512 + count * 512 = omega arith in
    let behind : count * 512 ≤ length (drop 512 xs) = omega (arith, length-drop 512 xs) in
    let here = or_clear _ _ clear in
    let tests = or_clear _ _ here.0 in
    let zero_parts = and_parts _ _ unused in
    let first : IsBlock k (take 512 xs) = record {
      whole = length-take-le 512 xs (omega arith);
      bytes = All-take IsByte 512 xs bytes;
      sum = passed _ _ tests.0;
      head = passed _ _ tests.1;
      unused = eqb-true _ _ zero_parts.0;
    } in
    (first, are_blocks (k + 1) count (drop 512 xs) (All-drop IsByte 512 xs bytes) behind here.1 zero_parts.1)

-- so each of them has 512 bytes
pub blocks_whole : (k : ℕ) (bs : List (List ℕ)) → AreBlocks k bs → All IsWhole bs
blocks_whole k [] are = All-nil IsWhole
blocks_whole k (b ∷ bs) are = All-cons IsWhole b bs are.0.whole (blocks_whole (k + 1) bs are.1)
