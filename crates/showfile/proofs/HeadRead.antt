-- The first block is spelled by the list and the numbers that it tells.
use Rattle.std.proofs.Common.{◌≡◌, ℕ, ◌+◌, ◌-◌, ◌*◌, ◌≤◌, true, List, [], ◌∷◌, ◌++◌, length, drop, map, take, sym, ap, ap₂, ◌∙◌, arith}
use Rattle.std.specs.Int.{to_be_bytes, w16}
use Rattle.std.specs.List.{flat_map}
use Rattle.std.specs.Simd.{first_chunks}
use Rattle.std.proofs.lemmas.List.{length-drop, take-take, take_all}
use Rattle.std.proofs.lemmas.List.Elements.{All-drop}
use Rattle.std.proofs.lemmas.List.Folds.{flat_map-map}
use Rattle.readings.specs.Proposals.{kept}
use Rattle.strip.specs.Strips.{Strip}
use Rattle.showfile.specs.Blocks.{padded}
use Rattle.showfile.specs.Tests.{are_zero, unused_in_head}
use Rattle.showfile.specs.Told.{block_slots, byte_at, first_told, last_told, row_read, rows_read, slots_told}
use Rattle.showfile.specs.Spelling.{head_block, head_body, row}
use Rattle.showfile.proofs.BlockRead.{IsBlock, block_spelled}
use Rattle.showfile.proofs.Bytes.{AreBytes, IsByte}
use Rattle.showfile.proofs.Next.{byte_next, next_behind, next_length, next_two, number_next}
use Rattle.showfile.proofs.Pieces.{pieces_joined}
use Rattle.showfile.proofs.RowsCut.{rows_length}
use Rattle.showfile.proofs.Zeros.{both_zero, padded_told}

-- five bytes are those of the row that they tell
row_spelled : (x : List ℕ) → length x ≡ 5 → AreBytes x → row (kept (row_read x)) ≡ x
row_spelled x size bytes =
    let id = number_next 0 x bytes (omega arith) in
    let work = byte_next 2 x (omega arith) in
    let validity = number_next 3 x bytes (omega arith) in
    let cut = next_two 0 2 3 x ∙ ap₂ ◌++◌ id (next_two 2 1 2 x ∙ ap₂ ◌++◌ work validity) in
    sym cut ∙ take_all 5 x (omega arith)

-- the strip that a first block and slots tell
abbrev strip_told : (h slots : List ℕ) → Strip
strip_told h slots = record { rows = map kept (rows_read h); slots = slots; first = first_told h; last = last_told h }

-- a first block with no more rows than a list has, and its unused bytes 0
module _ (h : List ℕ) (is : IsBlock 0 h) (few : byte_at 4 h ≤ 16) (unused : are_zero (unused_in_head h) ≡ true) where
  -- how many bytes its rows take
  abbrev used : ℕ
  used = 5 * byte_at 4 h

  -- they are spelled by these
  rows_spelled : flat_map row (map kept (rows_read h)) ≡ take used (drop 5 h)
  rows_spelled =
      let count = byte_at 4 h in
      let room : count * 5 ≤ length (drop 5 h) = omega (arith, length-drop 5 h, is.whole) in
      let bytes = All-drop IsByte 5 h is.bytes in
      let each = pieces_joined 5 (λ x. row (kept (row_read x))) row_spelled count (drop 5 h) bytes room in
      let same : count * 5 ≡ used = omega arith in
      flat_map-map row kept (rows_read h)
      ∙ flat_map-map (λ p. row (kept p)) row_read (first_chunks 5 count (drop 5 h))
      ∙ each
      ∙ ap (λ (n : ℕ). take n (drop 5 h)) same

  -- the bytes behind the rows are 0, and those behind the numbers
  zero_parts : (are_zero (take (80 - used) (drop (5 + used) h)) ≡ true) × (are_zero (take 417 (drop 91 h)) ≡ true)
  zero_parts = both_zero (take (80 - used) (drop (5 + used) h)) (take 417 (drop 91 h)) unused

  -- with zeros behind them the rows are the 80 bytes that are for them
  list_spelled : take 80 (drop 5 h) ≡ padded 80 (flat_map row (map kept (rows_read h)))
  list_spelled =
      let list = take 80 (drop 5 h) in
      let all : 80 ≡ used + (80 - used) = omega arith in
      let behind = ap (λ (n : ℕ). drop used (take n (drop 5 h))) all ∙ next_behind 5 used (80 - used) h in
      let size = next_length 5 80 h (omega (arith, is.whole)) in
      let rows = take-take used 80 (drop 5 h) (omega arith) ∙ sym rows_spelled in
      padded_told 80 used list size (ap are_zero behind ∙ zero_parts.0) ∙ ap (padded 80) rows

  -- the first block is that of the strip that it tells with slots, where it tells how many they are
  pub head_spelled : (slots : List ℕ) → length slots ≡ slots_told h → h ≡ head_block (strip_told h slots)
  head_spelled slots size =
      let whole = is.whole in
      let count = byte_next 4 h (omega arith) ∙ ap (λ (n : ℕ). n ∷ []) (sym (rows_length h)) in
      let many = number_next 85 h is.bytes (omega arith) ∙ ap (to_be_bytes w16) (sym size) in
      let first = number_next 87 h is.bytes (omega arith) in
      let last = number_next 89 h is.bytes (omega arith) in
      let list = next_two 4 1 80 h ∙ ap₂ ◌++◌ count list_spelled in
      let numbers = next_two 4 83 2 h ∙ ap₂ ◌++◌ (next_two 4 81 2 h ∙ ap₂ ◌++◌ list many) first in
      let told : take 87 (drop 4 h) ≡ head_body (strip_told h slots) = next_two 4 85 2 h ∙ ap₂ ◌++◌ numbers last in
      let front = take-take 87 504 (drop 4 h) (omega arith) ∙ told in
      let rest = ap are_zero (next_behind 4 87 417 h) ∙ zero_parts.1 in
      let body = padded_told 504 87 (block_slots h) (next_length 4 504 h (omega arith)) rest in
      block_spelled 0 h is (head_body (strip_told h slots)) (body ∙ ap (padded 504) front)
