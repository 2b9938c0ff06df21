-- What is spelled for a closed strip is read as that strip.
use Rattle.std.proofs.Common.{◌≡◌, ℕ, ◌+◌, ◌-◌, ◌*◌, ◌/◌, ◌%◌, ◌<◌, ◌≤◌, All, Bool, true, ◌&&◌, leb, ltb, List, [], ◌++◌, length, map, take, drop, replicate, None, Option, Ok, Err, refl, sym, ap, ap₂, subst, ◌∙◌, arith}
use Rattle.std.specs.List.{list_all}
use Rattle.std.specs.Option.{option_map_or}
use Rattle.std.proofs.lemmas.Bool.{and_from, eq-eqb, le-leb, lt-ltb}
use Rattle.std.proofs.lemmas.List.{drop_at, take_all, take_at}
use Rattle.std.proofs.lemmas.List.Elements.{All-same, All-weaker}
use Rattle.std.proofs.lemmas.List.Sums.{list_all-from_AllPass}
use Rattle.readings.specs.Proposals.{kept, list_refusal}
use Rattle.readings.specs.Ranges.{WellMade}
use Rattle.readings.specs.Refusals.{Content}
use Rattle.readings.specs.declared.reading.Reading.{Reading}
use Rattle.strip.specs.Strips.{IsClosed, Strip}
use Rattle.showfile.specs.Reading.{block_refusal, blocks_refusal, content_refusal, file_refusal, reading, unless}
use Rattle.showfile.specs.Tests.{are_zero, is_file_length, numbers_fit, rest_fits, slots_fit, unused_in_head}
use Rattle.showfile.specs.Told.{blocks, byte_at, first_told, last_told, rows_read, slot_bytes, slots_read, slots_told, strip_read}
use Rattle.showfile.specs.Spelling.{blocks_of, head_block, head_body, slot_block_count, slot_blocks, spelling}
use Rattle.showfile.proofs.BlockAgain.{unrefused_block}
use Rattle.showfile.proofs.Blocks.{blocks_again, length_slot_blocks, length_spelling}
use Rattle.showfile.proofs.Bytes.{AreBytes, IsByte}
use Rattle.showfile.proofs.HeadAgain.{body_bytes, first_found, head_unused, last_found, list_unrefused, rows_again, rows_found, slots_found}
use Rattle.showfile.proofs.HeadBody.{length_body}
use Rattle.showfile.proofs.SlotsAgain.{slot_bytes_again, slots_unrefused, unused_again}
use Rattle.showfile.proofs.Unless.{both_clear, test_clear}
use Rattle.showfile.proofs.Zeros.{zero_in_one, zeros_again}

-- a length of 2 to 67 blocks is that of a show file
length_passes : (n count : ℕ) → n ≡ 512 * (1 + count) → 1 ≤ count → count ≤ 66 → is_file_length n ≡ true
length_passes n count e some few =
    let count_fits = and_from _ _ (le-leb 2 (n / 512) (omega arith)) (le-leb (n / 512) 67 (omega arith)) in
    and_from _ _ (eq-eqb (n % 512) 0 (omega arith)) count_fits

-- the test of the numbers that a first block tells
abbrev fit : (n first last room : ℕ) → Bool
fit n first last room = leb 1 n && (leb n 32767 && (leb n room && (leb 1 first && (leb first last && ltb last n))))

-- where these are those of a closed strip they pass it
numbers_pass : (told_n told_first told_last n first last room : ℕ) → told_n ≡ n → told_first ≡ first → told_last ≡ last
    → 1 ≤ n → n ≤ 32767 → n ≤ room → 1 ≤ first → first ≤ last → last < n → fit told_n told_first told_last room ≡ true
numbers_pass told_n told_first told_last n first last room e f g some few fits from ordered inside =
    let loop = and_from _ _ (le-leb 1 first from) (and_from _ _ (le-leb first last ordered) (lt-ltb last n inside)) in
    rw (e, f, g) (and_from _ _ (le-leb 1 n some) (and_from _ _ (le-leb n 32767 few) (and_from _ _ (le-leb n room fits) loop)))

-- a strip is told by its rows, its slots and its loop
same_strip : (rows : List Reading) (slots : List ℕ) (first last : ℕ) (s : Strip)
    → rows ≡ s.rows → slots ≡ s.slots → first ≡ s.first → last ≡ s.last
    → (let it : Strip = record { rows = rows; slots = slots; first = first; last = last } in it) ≡ s
same_strip rows slots first last s a b c d = rw (a, b, c, d)

-- what is not refused is taken
taken : (refusal : Option Content) (told s : Strip) → refusal ≡ None → told ≡ s
    → option_map_or (λ e. Err e) refusal (Ok told) ≡ Ok s
taken refusal told s e f = rw (e, f)

module _ (s : Strip) (closed : IsClosed s) where
  -- how many slots it has, and how many blocks they take
  abbrev many : ℕ
  many = length s.slots

  abbrev count : ℕ
  count = slot_block_count many

  -- its rows and its slots are few enough
  few_rows : length s.rows ≤ 16
  few_rows = closed.list.few

  few_slots : many ≤ 32767
  few_slots = closed.closed.few

  -- the length is that of a show file
  length_clear : is_file_length (length (spelling s)) ≡ true
  length_clear =
      let some = closed.closed.some in
      length_passes (length (spelling s)) count (length_spelling s few_rows) (omega arith) (omega (arith, few_slots))

  -- each slot names a row or none
  slots_named : All (λ row. row ≤ length s.rows) s.slots
  slots_named =
      let all = take_all many s.slots (omega arith) in
      All-same (λ row. row ≤ length s.rows) s.slots (take many s.slots) (sym all) closed.closed.named

  -- and is a byte
  slots_bytes : AreBytes s.slots
  slots_bytes = All-weaker (λ row. row ≤ length s.rows) IsByte (λ row h. omega (arith, few_rows)) s.slots slots_named

  -- no block is refused
  blocks_clear : blocks_refusal 0 (blocks_of s) ≡ None
  blocks_clear =
      let long = length_body s few_rows in
      let bytes = body_bytes s few_rows closed.list.works in
      let first = unrefused_block 84 0 (head_body s) refl (omega arith) (omega arith) (omega arith) bytes in
      let others = slots_unrefused 1 count s.slots (omega arith) (omega (arith, few_slots)) slots_bytes in
      both_clear (block_refusal 0 (head_block s)) (blocks_refusal 1 (slot_blocks 1 count s.slots)) first others

  -- the rows that are read are the strip's
  rows_are : map kept (rows_read (head_block s)) ≡ s.rows
  rows_are = ap (map kept) (rows_found s few_rows) ∙ rows_again s.rows closed.list.ids closed.list.validities

  -- so are not refused
  list_clear : list_refusal (rows_read (head_block s)) ≡ None
  list_clear = list_unrefused (rows_read (head_block s)) (subst WellMade (sym rows_are) closed.list)

  -- the numbers that are told are the strip's
  many_is : slots_told (head_block s) ≡ many
  many_is = slots_found s few_rows (omega (arith, few_slots))

  -- so is the first slot of the loop
  first_is : first_told (head_block s) ≡ s.first
  first_is = first_found s few_rows (omega (arith, few_slots, closed.closed.ordered, closed.closed.inside))

  -- and the last
  last_is : last_told (head_block s) ≡ s.last
  last_is = last_found s few_rows (omega (arith, few_slots, closed.closed.inside))

  -- so fit
  numbers_clear : (room : ℕ) → many ≤ room
      → (let head = head_block s in numbers_fit (slots_told head) (first_told head) (last_told head) room) ≡ true
  numbers_clear room h =
      let c = closed.closed in
      let head = head_block s in
      numbers_pass (slots_told head) (first_told head) (last_told head) many s.first s.last room many_is first_is last_is
      c.some c.few h c.from_one c.ordered c.inside

  -- how many zeros and which stand behind the slots
  abbrev left : ℕ
  left = 504 * count - many

  abbrev no_slots : List ℕ
  no_slots = replicate left 0

  -- the bytes for slots
  abbrev found : List ℕ
  found = slot_bytes (slot_blocks 1 count s.slots)

  -- are the slots, and these zeros
  found_is : found ≡ s.slots ++ no_slots
  found_is = slot_bytes_again 1 count s.slots (omega arith)

  -- so the slots are read
  slots_are : slots_read (blocks_of s) ≡ s.slots
  slots_are = ap₂ (λ (n : ℕ) (t : List ℕ). take n t) many_is found_is ∙ take_at s.slots no_slots many refl

  -- and behind them stand these zeros
  past_slots : drop (slots_told (head_block s)) found ≡ no_slots
  past_slots = ap₂ (λ (n : ℕ) (t : List ℕ). drop n t) many_is found_is ∙ drop_at s.slots no_slots many refl

  -- there are as many blocks as the slots take, and what nothing is told in is zero
  rest_clear : rest_fits (blocks_of s) ≡ true
  rest_clear =
      let told = slots_told (head_block s) in
      let ones = map (byte_at 1) (blocks_of s) in
      let in_head = unused_in_head (head_block s) in
      let front = zero_in_one ones in_head (unused_again 1 count s.slots) (head_unused s few_rows) in
      let blocks = length_slot_blocks 1 count s.slots ∙ ap slot_block_count (sym many_is) in
      and_from _ _ (eq-eqb (length (slot_blocks 1 count s.slots)) (slot_block_count told) blocks)
      (zero_in_one (ones ++ in_head) (drop told found) front (ap are_zero past_slots ∙ zeros_again left))

  -- each slot that is read names a row or none
  slots_clear : slots_fit (blocks_of s) ≡ true
  slots_clear =
      let rows = length s.rows in
      let pass = All-weaker (λ row. row ≤ rows) (λ row. leb row rows ≡ true) (λ row h. le-leb row rows h) s.slots slots_named in
      ap (list_all (λ row. leb row rows)) slots_are ∙ list_all-from_AllPass (λ row. leb row rows) s.slots pass

  -- nothing is refused
  content_clear : (room : ℕ) → many ≤ room → content_refusal (blocks_of s) room ≡ None
  content_clear room h =
      let rest = both_clear _ _ (test_clear _ (23, []) rest_clear) (test_clear _ (10, []) slots_clear) in
      let numbers = both_clear _ _ (test_clear _ (10, []) (numbers_clear room h)) rest in
      both_clear _ _ blocks_clear (both_clear _ _ list_clear numbers)

  -- and what is told is the strip
  strip_is : strip_read (blocks_of s) ≡ s
  strip_is =
      let head = head_block s in
      same_strip (map kept (rows_read head)) (slots_read (blocks_of s)) (first_told head) (last_told head) s
      rows_are slots_are first_is last_is

-- the spelling of a closed strip is read as that strip, where it has room
pub again : (s : Strip) (room : ℕ) → IsClosed s → length s.slots ≤ room
    → (file_refusal (spelling s) room ≡ None) × (strip_read (blocks (spelling s)) ≡ s)
again s room closed h =
    let file = spelling s in
    let test = is_file_length (length file) in
    let same = blocks_again s closed.list.few in
    let content = ap (λ (bs : List (List ℕ)). content_refusal bs room) same ∙ content_clear s closed room h in
    let length_passed = test_clear test (20, []) (length_clear s closed) in
    let clear = both_clear (unless test (20, [])) (content_refusal (blocks file) room) length_passed content in
    (clear, ap strip_read same ∙ strip_is s closed)

-- so it is read back
pub reads_back : (s : Strip) (room : ℕ) → IsClosed s → length s.slots ≤ room → reading (spelling s) room ≡ Ok s
reads_back s room closed h =
    let it = again s room closed h in
    taken (file_refusal (spelling s) room) (strip_read (blocks (spelling s))) s it.0 it.1
