-- The body of the first block: its parts, and how long they are.
use Rattle.std.proofs.Common.{◌≡◌, ℕ, ◌≤◌, All, List, ◌∷◌, ◌++◌, length, flat_map, append_assoc, refl, ap, ◌∙◌, arith}
use Rattle.std.specs.Int.{to_be_bytes, w16}
use Rattle.std.proofs.lemmas.List.{length-append}
use Rattle.readings.specs.declared.reading.Reading.{Reading}
use Rattle.strip.specs.Strips.{Strip}
use Rattle.showfile.specs.Blocks.{padded}
use Rattle.showfile.specs.Spelling.{head_body, row}
use Rattle.showfile.proofs.Pieces.{HasLength, length_joined}
use Rattle.showfile.proofs.Zeros.{length_padded}

-- a row takes five bytes
pub rows_whole : (rows : List Reading) → All (HasLength row 5) rows
rows_whole rows k d h = refl

-- the rows of a list take no more than 80
pub length_rows : (rows : List Reading) → length rows ≤ 16 → length (flat_map row rows) ≤ 80
length_rows rows h = omega (arith, length_joined row 5 rows (rows_whole rows))

-- the numbers behind the rows: how many slots, the first of the loop and the last
abbrev pub numbers : Strip → List ℕ
numbers s = to_be_bytes w16 (length s.slots) ++ (to_be_bytes w16 s.first ++ to_be_bytes w16 s.last)

-- the body of the first block: how many rows, 80 bytes for them, and the numbers
pub body_parts : (s : Strip) → head_body s ≡ length s.rows ∷ (padded 80 (flat_map row s.rows) ++ numbers s)
body_parts s =
    let rows = padded 80 (flat_map row s.rows) in
    let slots = to_be_bytes w16 (length s.slots) in
    let first = to_be_bytes w16 s.first in
    let last = to_be_bytes w16 s.last in
    ap (λ (t : List ℕ). length s.rows ∷ t) (append_assoc (rows ++ slots) first last ∙ append_assoc rows slots (first ++ last))

-- it has 87 bytes
pub length_body : (s : Strip) → length s.rows ≤ 16 → length (head_body s) ≡ 87
length_body s h =
    let bytes = flat_map row s.rows in
    let long = length_padded 80 bytes (length_rows s.rows h) in
    omega (arith, ap length (body_parts s), length-append (padded 80 bytes) (numbers s))
