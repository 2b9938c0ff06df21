-- What is read is spelled so.
use Rattle.std.proofs.Common.{◌≡◌, ℕ, ◌+◌, ◌*◌, ◌/◌, ◌%◌, ◌≤◌, leb, List, [], ◌∷◌, length, None, refl, sym, ap, ap₂, ◌∙◌, arith}
use Rattle.std.specs.List.{concat}
use Rattle.std.proofs.lemmas.List.Concat.{concat_is}
use Rattle.std.proofs.lemmas.Bool.{and_parts, eqb-true, leb-true}
use Rattle.std.proofs.lemmas.List.{length-take-le, take_all}
use Rattle.std.proofs.lemmas.List.Sums.{AllPass-from_list_all}
use Rattle.readings.specs.Ranges.{WellMade}
use Rattle.readings.proofs.Firsts.{or_clear}
use Rattle.readings.proofs.Kept.{made}
use Rattle.strip.specs.Strips.{IsClosed, Strip}
use Rattle.showfile.specs.Reading.{file_refusal}
use Rattle.showfile.specs.Tests.{is_file_length}
use Rattle.showfile.specs.Told.{blocks, byte_at, head, others, rows_read, slot_bytes, slots_read, slots_told, strip_read}
use Rattle.showfile.specs.Spelling.{blocks_of, slot_block_count, slot_blocks, spelling}
use Rattle.showfile.proofs.BlockRead.{IsBlock}
use Rattle.showfile.proofs.Blocks.{file_blocks}
use Rattle.showfile.proofs.Bytes.{AreBytes}
use Rattle.showfile.proofs.HeadRead.{head_spelled}
use Rattle.showfile.proofs.Pieces.{pieces_joined}
use Rattle.showfile.proofs.RowsCut.{rows_length}
use Rattle.showfile.proofs.SlotCuts.{slot_bytes_length}
use Rattle.showfile.proofs.SlotsRead.{slots_spelled}
use Rattle.showfile.proofs.Unless.{passed}
use Rattle.showfile.proofs.Unrefused.{AreBlocks, IsUnrefused, are_blocks, blocks_whole, unrefused}

-- bytes spell a closed strip, which has room
pub record IsSpelled (bytes : List ℕ) (room : ℕ) (s : Strip) : Type 0 where
  pub closed : IsClosed s
  pub fits : length s.slots ≤ room
  pub spelled : bytes ≡ spelling s

-- blocks are the first and those behind it
parted : (bs : List (List ℕ)) → 1 ≤ length bs → head bs ∷ others bs ≡ bs
parted [] some = absurd (omega arith)
parted (b ∷ bs) some = refl

-- the first is block 0, and those behind it are numbered from 1 on
parts : (bs : List (List ℕ)) → 1 ≤ length bs → AreBlocks 0 bs → IsBlock 0 (head bs) × AreBlocks 1 (others bs)
parts [] some are = absurd (omega arith)
parts (b ∷ bs) some are = are

-- blocks that are not refused
module _ (bs : List (List ℕ)) (room : ℕ) (some : 1 ≤ length bs) (are : AreBlocks 0 bs) (is : IsUnrefused bs room) where
  -- each slot of theirs is there
  slots_length : length (slots_read bs) ≡ slots_told (head bs)
  slots_length =
      let n = slots_told (head bs) in
      let there = slot_bytes_length (others bs) (blocks_whole 1 (others bs) (parts bs some are).1) in
      let count : length (others bs) ≡ (n + 503) / 504 = is.count in
      length-take-le n (slot_bytes (others bs)) (omega arith)

  -- their rows make a list
  list : WellMade (strip_read bs).rows
  list = made (rows_read (head bs)) is.list

  -- the slots are closed for it
  closed : IsClosed (strip_read bs)
  closed =
      let numbers = is.numbers in
      let size = slots_length in
      let each = AllPass-from_list_all (λ row. leb row (byte_at 4 (head bs))) (slots_read bs) is.slots in
      let all = take_all (length (slots_read bs)) (slots_read bs) (omega arith) in
      let rows = rows_length (head bs) in
      record {
        list = list;
        closed = record {
          some = omega (arith, numbers.some);
          few = omega (arith, numbers.few);
          room = omega arith;
          from_one = numbers.from_one;
          ordered = numbers.ordered;
          inside = omega (arith, numbers.inside);
          named = rw (all, rows) (λ k d h. leb-true _ _ (each k d h));
        };
      }

  -- they have room
  have_room : length (slots_read bs) ≤ room
  have_room = omega (arith, slots_length, is.numbers.fit)

  -- they are the blocks of the strip that they tell
  blocks_spelled : blocks_of (strip_read bs) ≡ bs
  blocks_spelled =
      let both = parts bs some are in
      let few : byte_at 4 (head bs) ≤ 16 = omega (arith, list.few, rows_length (head bs)) in
      let first = head_spelled (head bs) both.0 few is.unused_in_head (slots_read bs) slots_length in
      let count = ap slot_block_count slots_length ∙ sym is.count in
      let rest = slots_spelled 1 (others bs) (slots_told (head bs)) (omega arith) both.1 is.unused_slots in
      ap₂ ◌∷◌ (sym first) (ap (λ (n : ℕ). slot_blocks 1 n (slots_read bs)) count ∙ rest) ∙ parted bs some

-- what is read from bytes is a closed strip, which has room, and the bytes spell it
pub found : (file : List ℕ) (room : ℕ) → AreBytes file → file_refusal file room ≡ None
    → IsSpelled file room (strip_read (blocks file))
found file room bytes e =
    let both = or_clear _ _ e in
    let size = and_parts _ _ (passed (is_file_length (length file)) _ both.0) in
    let count = length file / 512 in
    let whole : length file % 512 ≡ 0 = eqb-true _ _ size.0 in
    let least : 2 ≤ count = leb-true _ _ (and_parts _ _ size.1).0 in
    let bs = blocks file in
    let is = unrefused bs room both.1 in
    let some : 1 ≤ length bs = omega (arith, file_blocks file) in
    let are = are_blocks 0 count file bytes (omega arith) is.each is.unused in
    let joined = pieces_joined 512 (λ b. b) (λ b size bytes. refl) count file bytes (omega arith) in
    let all = take_all (count * 512) file (omega arith) in
    record {
      closed = closed bs room some are is;
      fits = have_room bs room some are is;
      spelled = sym (ap concat (blocks_spelled bs room some are is) ∙ concat_is bs ∙ joined ∙ all);
    }
