-- What stands in a slice whose front is known, once bytes are written behind that front.
use Rattle.std.proofs.Common.{◌≡◌, ℕ, suc, ◌+◌, ◌-◌, ◌*◌, ◌<◌, ◌≤◌, List, [], ◌∷◌, ◌++◌, length, get_or, set, take, drop, replicate, append-nil, append_assoc, refl, sym, ap, ◌∙◌, arith}
use Rattle.std.specs.Int.{to_be_bytes, w16}
use Rattle.std.specs.List.{flat_map}
use Rattle.std.proofs.lemmas.List.{drop-replicate, drop_at, flat_map_more, length-append, length-take, take_at, take_more}
use Rattle.readings.specs.declared.reading.Reading.{Reading}
use Rattle.strip.specs.Strips.{Strip}
use Rattle.showfile.specs.Blocks.{padded}
use Rattle.showfile.specs.Spelling.{head_body, row}
use Rattle.showfile.proofs.HeadBody.{body_parts, length_rows, numbers, rows_whole}
use Rattle.showfile.proofs.Pieces.{length_joined}
use Rattle.showfile.proofs.Zeros.{length_padded}
use borrow.Rule.Slice.PartMut.{put_mid}

-- the front, what was written, and the rest of what was there
written_behind : (front rest bytes : List ℕ) (a k : ℕ) → length front ≡ a
    → put_mid a k (front ++ rest) bytes ≡ front ++ bytes ++ drop k rest
written_behind front rest bytes a k h =
    rw (take_at front rest a h, drop_at front rest a h) (sym (append_assoc front bytes (drop k rest)))

-- the zeros behind a front, but for those that are written over
zeros_left : (n k : ℕ) (front bytes : List ℕ) → length bytes ≡ k
    → drop {A = ℕ} k (replicate (n - length front) 0) ≡ replicate (n - length (front ++ bytes)) 0
zeros_left n k front bytes h =
    drop-replicate k (n - length front) 0 ∙ ap (λ m. replicate m 0) (omega (arith, length-append front bytes))

-- where zeros stood behind the front, zeros stand behind what was written
written_padded : (n : ℕ) (front bytes : List ℕ) (a k : ℕ) → length front ≡ a → length bytes ≡ k
    → put_mid a k (padded n front) bytes ≡ padded n (front ++ bytes)
written_padded n front bytes a k f b =
    written_behind front (replicate (n - length front) 0) bytes a k f
    ∙ ap (λ (rest : List ℕ). front ++ bytes ++ rest) (zeros_left n k front bytes b)

-- the kind of a block and its number, written into zeros
front_written : (n kind number : ℕ)
    → put_mid 2 2 (set (replicate (suc (suc n)) 0) 0 kind) (to_be_bytes w16 number)
    ≡ padded (suc (suc n)) (kind ∷ 0 ∷ to_be_bytes w16 number)
front_written n kind number =
    let left : n ≡ suc (suc n) - 2 = omega arith in
    ap (λ m. put_mid 2 2 (kind ∷ 0 ∷ replicate m 0) (to_be_bytes w16 number)) left
    ∙ written_padded (suc (suc n)) (kind ∷ 0 ∷ []) (to_be_bytes w16 number) 2 2 refl refl

-- the body of a block, written behind them
pub parts_written : (n kind number : ℕ) (zeros told written body : List ℕ) (k : ℕ)
    → zeros ≡ replicate (suc (suc n)) 0 → told ≡ to_be_bytes w16 number → written ≡ body → k ≡ length body
    → put_mid 4 k (put_mid 2 2 (set zeros 0 kind) told) written
    ≡ padded (suc (suc n)) (kind ∷ 0 ∷ to_be_bytes w16 number ++ body)
parts_written n kind number zeros told written body k z t w l =
    rw (z, t, w) (ap (λ (front : List ℕ). put_mid 4 k front body) (front_written n kind number)
    ∙ written_padded (suc (suc n)) (kind ∷ 0 ∷ to_be_bytes w16 number) body 4 k refl (sym l))

-- one row more, written behind the rows before it
pub row_written : (n : ℕ) (rows : List Reading) (k width : ℕ) (d : Reading) (before written : List ℕ)
    → k < length rows → width ≡ 5 → before ≡ padded n (flat_map row (take k rows)) → written ≡ row (get_or rows k d)
    → put_mid (5 * k) width before written ≡ padded n (flat_map row (take (k + 1) rows))
row_written n rows k width d before written h w b t =
    let above = take k rows in
    let r = get_or rows k d in
    let long : length (flat_map row above) ≡ 5 * k =
    omega (arith, length_joined row 5 above (rows_whole above), length-take k rows) in
    let more : flat_map row above ++ row r ≡ flat_map row (take (k + 1) rows) =
    rw (take_more rows k d h) (flat_map_more row [] above r) in
    rw (b, t) (written_padded n (flat_map row above) (row r) (5 * k) width long (sym w) ∙ ap (padded n) more)

-- the numbers of a strip, written behind how many rows and the rows
pub body_written : (s : Strip) (count : ℕ) (rows written : List ℕ)
    → length s.rows ≤ 16 → count ≡ length s.rows → rows ≡ padded 80 (flat_map row s.rows) → written ≡ numbers s
    → put_mid 81 6 (count ∷ (rows ++ replicate 6 0)) written ≡ head_body s
body_written s count rows written few n r w =
    let front = length s.rows ∷ padded 80 (flat_map row s.rows) in
    let long : length front ≡ 81 = omega (arith, length_padded 80 (flat_map row s.rows) (length_rows s.rows few)) in
    let behind = written_behind front (replicate 6 0) (numbers s) 81 6 long in
    rw (n, r, w) (behind ∙ append-nil (front ++ numbers s) ∙ sym (body_parts s))
