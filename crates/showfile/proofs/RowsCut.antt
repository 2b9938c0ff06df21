-- Rows that are cut from bytes.
use Rattle.std.proofs.Common.{◌≡◌, ℕ, ◌<◌, ◌≤◌, false, List, [], ◌∷◌, ◌++◌, ◌+◌, length, map, get_or, set, take, drop, Some, None, Option, Ok, Err, Result, refl, sym, ap, ◌∙◌, arith}
use Rattle.std.proofs.lemmas.Bool.{and_right, lt-leb}
use Rattle.std.proofs.lemmas.List.{length-map, take_all, take_more, take_more_set, map-append}
use Rattle.std.specs.Prelude.{IfErr, IsOk, nat_le}
use Rattle.std.specs.Simd.{first_chunks}
use Rattle.readings.specs.Proposals.{is_list_length, kept, list_refusal}
use Rattle.readings.specs.Refusals.{Content, content, refusal_of}
use Rattle.readings.specs.declared.reading.Proposal.{Proposal}
use Rattle.readings.specs.declared.refusal.Refusal.{Refusal}
use Rattle.showfile.specs.Told.{byte_at, row_read, rows_read}
use Rattle.showfile.proofs.Pieces.{fewer, pieces_length}

-- as many rows are read as byte 4 of a first block tells
rows_count : (block : List ℕ) → length (rows_read block) ≡ byte_at 4 block
rows_count block =
    let count = byte_at 4 block in
    length-map (first_chunks 5 count (drop 5 block)) row_read ∙ pieces_length 5 count (drop 5 block)

-- so many are kept
pub rows_length : (block : List ℕ) → length (map kept (rows_read block)) ≡ byte_at 4 block
rows_length block = length-map (rows_read block) kept ∙ rows_count block

-- more rows than a list may have are refused
pub too_many : (block : List ℕ) → 16 < byte_at 4 block → list_refusal (rows_read block) ≡ Some (1, [])
too_many block more =
    let count = byte_at 4 block in
    let over : is_list_length (length (rows_read block)) ≡ false
    = rw (rows_count block) (and_right (nat_le 1 count) (nat_le count 16) (lt-leb count 16 more)) in
    rw over refl

-- what is read of each of the first pieces
pub rows_cut : (block : List ℕ) (count k pieces : ℕ) (cut : List (List ℕ)) (given : List Proposal)
    → cut ≡ first_chunks 5 pieces (drop 5 block) → count ≡ byte_at 4 block → count ≤ pieces
    → length (take count cut) ≤ k → k ≤ length (take count cut) → take k given ≡ map row_read (take k (take count cut))
    → take count given ≡ rows_read block
rows_cut block count k pieces cut given cut_is told fit over within so_far =
    let first = ap (take count) cut_is ∙ fewer 5 count pieces (drop 5 block) fit in
    let all : k ≡ count = omega (arith, over, within, ap length first, pieces_length 5 count (drop 5 block)) in
    let whole = take_all k (take count cut) over in
    ap (λ (n : ℕ). take n given) (sym all) ∙ so_far ∙ ap (map row_read) (whole ∙ first)
    ∙ ap (λ (n : ℕ). map row_read (first_chunks 5 n (drop 5 block))) told

-- how a list is refused, or that it is not
pub refusal_is : {A : Type 0} (r : Result A Refusal) (x : Option Content)
    → IfErr r (λ e. x ≡ Some (content e)) → (IsOk r → x ≡ None) → refusal_of r ≡ x
refusal_is (Ok y) x err ok = sym (ok refl)
refusal_is (Err e) x err ok = sym err

-- one row more is read
pub one_read : (given : List Proposal) (items : List (List ℕ)) (k : ℕ)
    → k < length given → k < length items → take k given ≡ map row_read (take k items)
    → take (k + 1) (set given k (row_read (get_or items k []))) ≡ map row_read (take (k + 1) items)
one_read given items k room here so_far =
    take_more_set given k (row_read (get_or items k [])) room
    ∙ ap (λ (ps : List Proposal). ps ++ row_read (get_or items k []) ∷ []) so_far
    ∙ sym (map-append row_read (take k items) (get_or items k [] ∷ []))
    ∙ ap (map row_read) (sym (take_more items k [] here))
