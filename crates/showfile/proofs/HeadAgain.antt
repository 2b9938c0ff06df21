-- The rows and the numbers of a strip are found again in the first block that is spelled for it.
use Rattle.std.proofs.Common.{◌≡◌, ℕ, ◌+◌, ◌-◌, ◌*◌, ◌^◌, ◌<◌, ◌≤◌, All, true, List, [], ◌∷◌, ◌++◌, length, map, take, drop, replicate, flat_map, None, append_assoc, refl, sym, ap, ap₂, ◌∙◌, arith}
use Rattle.std.specs.Int.{from_be_bytes, to_be_bytes, w16, w32}
use Rattle.std.specs.Simd.{first_chunks}
use Rattle.std.proofs.lemmas.Bool.{and_from, le-leb}
use Rattle.std.proofs.lemmas.List.{drop-drop, drop_at, length-map, length-replicate, take_at}
use Rattle.std.proofs.lemmas.List.Elements.{All-append, All-cons, All-head, All-nil, All-same, All-tail}
use Rattle.std.proofs.lemmas.Nat.{from_be_bytes-to_be_bytes_2}
use Rattle.readings.proofs.Kept.{unrefused_rows}
use Rattle.readings.specs.Proposals.{is_list_length, kept, list_refusal}
use Rattle.readings.specs.Ranges.{IdRange, ValidityRange, WellMade, WorkRange}
use Rattle.readings.specs.declared.reading.Proposal.{Proposal}
use Rattle.readings.specs.declared.reading.Reading.{Reading}
use Rattle.strip.specs.Strips.{Strip}
use Rattle.showfile.specs.Blocks.{padded, sum_from}
use Rattle.showfile.specs.Tests.{are_zero, unused_in_head}
use Rattle.showfile.specs.Told.{first_told, last_told, number_at, row_read, rows_read, slots_told}
use Rattle.showfile.specs.Spelling.{head_block, head_body, row}
use Rattle.showfile.proofs.BlockAgain.{front}
use Rattle.showfile.proofs.Bytes.{AreBytes, IsByte, number_bytes}
use Rattle.showfile.proofs.HeadBody.{body_parts, length_body, length_rows, numbers, rows_whole}
use Rattle.showfile.proofs.Pieces.{cut_again, length_joined}
use Rattle.showfile.proofs.Zeros.{length_padded, padded_bytes, zero_in_one, zeros_again}

-- a row is read as the row that was spelled
row_again : (r : Reading) → IdRange r → ValidityRange r → kept (row_read (row r)) ≡ r
row_again r id validity =
    let made = λ (i v : ℕ). let it : Reading = record { id = i; work = r.work; validity = v } in it in
    ap₂ made (from_be_bytes-to_be_bytes_2 r.id (omega arith)) (from_be_bytes-to_be_bytes_2 r.validity (omega arith))

-- and so are the rows of a list
pub rows_again : (rows : List Reading) → All IdRange rows → All ValidityRange rows → map kept (map row_read (map row rows)) ≡ rows
rows_again [] ids validities = refl
rows_again (r ∷ rs) ids validities =
    let one = row_again r (All-head IdRange r rs ids) (All-head ValidityRange r rs validities) in
    let more = rows_again rs (All-tail IdRange r rs ids) (All-tail ValidityRange r rs validities) in
    ap₂ (λ (x : Reading) (xs : List Reading). x ∷ xs) one more

-- a row is spelled in bytes
row_bytes : (r : Reading) → WorkRange r → AreBytes (row r)
row_bytes r work =
    let rest = All-cons IsByte r.work (to_be_bytes w16 r.validity) (omega arith) (number_bytes w16 r.validity) in
    All-append IsByte (to_be_bytes w16 r.id) (r.work ∷ to_be_bytes w16 r.validity) (number_bytes w16 r.id) rest

-- and so are those of a list
rows_bytes : (rows : List Reading) → All WorkRange rows → AreBytes (flat_map row rows)
rows_bytes [] works = All-nil IsByte
rows_bytes (r ∷ rs) works =
    let one = row_bytes r (All-head WorkRange r rs works) in
    let more = rows_bytes rs (All-tail WorkRange r rs works) in
    All-append IsByte (row r) (flat_map row rs) one more

-- numbers that make a list are not refused
pub list_unrefused : (ps : List Proposal) → WellMade (map kept ps) → list_refusal ps ≡ None
list_unrefused ps well =
    let same = length-map ps kept in
    let some = le-leb 1 (length ps) (omega (arith, well.some)) in
    let few = le-leb (length ps) 16 (omega (arith, well.few)) in
    let counted : is_list_length (length ps) ≡ true = and_from _ _ some few in
    rw counted (unrefused_rows ps well)

module _ (s : Strip) (few : length s.rows ≤ 16) where
  -- the first block: the rows in bytes, and how many zeros and which stand behind them
  abbrev rows : List ℕ
  rows = flat_map row s.rows

  abbrev rows_left : ℕ
  rows_left = 80 - length rows

  abbrev no_rows : List ℕ
  no_rows = replicate rows_left 0

  -- how many zeros and which stand behind the numbers, and the sum
  abbrev left : ℕ
  left = 508 - length (front 84 0 (head_body s))

  abbrev unused : List ℕ
  unused = replicate left 0

  abbrev sum : List ℕ
  sum = to_be_bytes w32 (sum_from 1 (padded 508 (front 84 0 (head_body s))))

  -- all that stands behind the 80 bytes for rows
  abbrev others : List ℕ
  others = numbers s ++ (unused ++ sum)

  -- the block from byte 5 on has the 80 bytes for rows, and these
  head_parts : drop 5 (head_block s) ≡ padded 80 rows ++ others
  head_parts =
      ap (λ (t : List ℕ). (drop 1 t ++ unused) ++ sum) (body_parts s)
      ∙ append_assoc (padded 80 rows ++ numbers s) unused sum
      ∙ append_assoc (padded 80 rows) (numbers s) (unused ++ sum)

  -- first of all the rows
  from_rows : drop 5 (head_block s) ≡ rows ++ (no_rows ++ others)
  from_rows = head_parts ∙ append_assoc rows no_rows others

  -- from byte 85 on these alone
  from_numbers : drop 85 (head_block s) ≡ others
  from_numbers = ap (drop 80) head_parts ∙ drop_at (padded 80 rows) others 80 (length_padded 80 rows (length_rows s.rows few))

  -- what is so far behind the 80 bytes
  far_behind : (k : ℕ) → drop (85 + k) (head_block s) ≡ drop k others
  far_behind k = sym (drop-drop k 85 (head_block s)) ∙ ap (drop k) from_numbers

  -- the rows are found
  pub rows_found : rows_read (head_block s) ≡ map row_read (map row s.rows)
  rows_found =
      ap (λ (t : List ℕ). map row_read (first_chunks 5 (length s.rows) t)) from_rows
      ∙ ap (map row_read) (cut_again row 5 s.rows (no_rows ++ others) (rows_whole s.rows))

  -- so are the numbers
  number_there : (k : ℕ) → number_at (85 + k) (head_block s) ≡ from_be_bytes w16 (take 2 (drop k others))
  number_there k = ap (λ (t : List ℕ). from_be_bytes w16 (take 2 t)) (far_behind k)

  pub slots_found : length s.slots < 2 ^ 16 → slots_told (head_block s) ≡ length s.slots
  slots_found h = number_there 0 ∙ from_be_bytes-to_be_bytes_2 (length s.slots) h

  pub first_found : s.first < 2 ^ 16 → first_told (head_block s) ≡ s.first
  first_found h = number_there 2 ∙ from_be_bytes-to_be_bytes_2 s.first h

  pub last_found : s.last < 2 ^ 16 → last_told (head_block s) ≡ s.last
  last_found h = number_there 4 ∙ from_be_bytes-to_be_bytes_2 s.last h

  -- the bytes past the rows
  abbrev past_rows : List ℕ
  past_rows = take (80 - 5 * length s.rows) (drop (5 + 5 * length s.rows) (head_block s))

  -- and past the numbers
  abbrev past_numbers : List ℕ
  past_numbers = take 417 (drop 91 (head_block s))

  -- are zeros
  past_rows_are : past_rows ≡ no_rows
  past_rows_are =
      let n = 5 * length s.rows in
      let long = length_joined row 5 s.rows (rows_whole s.rows) in
      let same : length no_rows ≡ 80 - n = length-replicate {A = ℕ} rows_left 0 ∙ ap (λ (k : ℕ). 80 - k) long in
      let there = sym (drop-drop n 5 (head_block s)) ∙ ap (drop n) from_rows ∙ drop_at rows (no_rows ++ others) n long in
      ap (take (80 - n)) there ∙ take_at no_rows others (80 - n) same

  -- and so are those
  past_numbers_are : past_numbers ≡ unused
  past_numbers_are =
      let body = length_body s few in
      let many : left ≡ 417 = omega arith in
      ap (take 417) (far_behind 6) ∙ take_at unused sum 417 (length-replicate {A = ℕ} left 0 ∙ many)

  pub head_unused : are_zero (unused_in_head (head_block s)) ≡ true
  head_unused =
      zero_in_one past_rows past_numbers
      (ap are_zero past_rows_are ∙ zeros_again rows_left) (ap are_zero past_numbers_are ∙ zeros_again left)

  -- the body is in bytes
  numbers_bytes : AreBytes (numbers s)
  numbers_bytes =
      let slots = number_bytes w16 (length s.slots) in
      let first = number_bytes w16 s.first in
      let last = number_bytes w16 s.last in
      let loop = All-append IsByte (to_be_bytes w16 s.first) (to_be_bytes w16 s.last) first last in
      All-append IsByte (to_be_bytes w16 (length s.slots)) (to_be_bytes w16 s.first ++ to_be_bytes w16 s.last) slots loop

  pub body_bytes : All WorkRange s.rows → AreBytes (head_body s)
  body_bytes works =
      let rest = padded 80 rows ++ numbers s in
      let spelled = padded_bytes 80 rows (rows_bytes s.rows works) in
      let bytes = All-append IsByte (padded 80 rows) (numbers s) spelled numbers_bytes in
      let whole = All-cons IsByte (length s.rows) rest (omega arith) bytes in
      All-same IsByte (head_body s) (length s.rows ∷ rest) (body_parts s) whole
