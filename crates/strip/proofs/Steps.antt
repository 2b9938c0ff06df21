-- A step of a player: what it does to the work of each row.
use Rattle.std.proofs.Common.{◌≡◌, ◌↔◌, ℕ, Bool, IsTrue, take, ◌++◌, ◌+◌, ◌-◌, ◌<◌, ◌≢◌, List, length, get_or, set, sym, ap, ◌∙◌, inl, inr, arith}
use native.Mathlib.Nat.{sub-zero}
use Rattle.std.proofs.lemmas.List.{get_or-set_other, get_or-set_same, get_or_default, length-set, same_lists}
use Rattle.std.proofs.Math.Seq.{take-append_seam}
use Rattle.std.proofs.lemmas.Bool.{cases_eq, eq-eqb, ne_eqb}
use Rattle.books.specs.Slots.{each_from}
use Rattle.books.proofs.Each.{each_twice, get_or_each, length_each}
use Rattle.strip.specs.Parts.{renewed, sampled, worked}
use Rattle.strip.specs.Positions.{Position, no_work, row_named, strip_next, work_after}
use Rattle.strip.specs.Sames.{positions_decide, same_position}
use Rattle.strip.specs.declared.work.RowWork.{RowWork}

-- where no row changes
none_taken : {X : Type 0} (f : ℕ → X → X) (xs : List X) (d : X) → ((k : ℕ) → k < length xs → f k (get_or xs k d) ≡ get_or xs k d) → xs ≡ each_from f 0 xs
none_taken f xs d same =
    same_lists xs (each_from f 0 xs) (sym (length_each f 0 xs)) (λ k e h.
    sym (get_or_each f xs k e h ∙ ap (f k) (get_or_default xs k e d h) ∙ same k h ∙ get_or_default xs k d e h))

-- where one row alone changes
one_taken : {X : Type 0} (f : ℕ → X → X) (xs : List X) (j : ℕ) (d y : X) → j < length xs → y ≡ f j (get_or xs j d) → ((k : ℕ) (x : X) → k ≢ j → f k x ≡ x) → set xs j y ≡ each_from f 0 xs
one_taken f xs j d y h is others =
    same_lists (set xs j y) (each_from f 0 xs) (length-set xs j y ∙ sym (length_each f 0 xs)) (λ k e l.
    let m = length-set xs j y in
    let i : k < length xs = omega arith in
    elim (cases_eq k j) [
      | inl same ↦ rw same (get_or-set_same xs j y e h ∙ is ∙ ap (f j) (get_or_default xs j d e h) ∙ sym (get_or_each f xs j e h))
      | inr other ↦ get_or-set_other xs j k y e other ∙ sym (get_or_each f xs k e i ∙ others k (get_or xs k e) other)
    ])

-- in slot 0 every row is sampled
pub sampled_first : (place row k : ℕ) (w : RowWork) → place ≡ 0 → sampled place row k w ≡ renewed w
sampled_first place row k w e = rw (eq-eqb place 0 e)

-- later no row that is not named
sampled_other : (place row k : ℕ) (w : RowWork) → place ≢ 0 → row ≢ k + 1 → sampled place row k w ≡ w
sampled_other place row k w p other = rw (ne_eqb place 0 p, ne_eqb row (k + 1) other)

-- the one that is named is, if it rests
pub sampled_rests : (place row k : ℕ) (w : RowWork) → place ≢ 0 → row ≡ k + 1 → w.left ≡ 0 → sampled place row k w ≡ renewed w
sampled_rests place row k w p e rests = rw (ne_eqb place 0 p, eq-eqb row (k + 1) e, eq-eqb w.left 0 rests)

-- and is not, if it has work left
pub sampled_busy : (place row k : ℕ) (w : RowWork) → place ≢ 0 → row ≡ k + 1 → w.left ≢ 0 → sampled place row k w ≡ w
sampled_busy place row k w p e busy = rw (ne_eqb place 0 p, eq-eqb row (k + 1) e, ne_eqb w.left 0 busy)

-- a slot that names no row samples none
pub none_sampled : (place row : ℕ) (ws : List RowWork) → place ≢ 0 → row ≡ 0 → ws ≡ each_from (sampled place row) 0 ws
none_sampled place row ws p e = none_taken (sampled place row) ws no_work (λ k h. sampled_other place row k (get_or ws k no_work) p (λ z. omega arith))

-- and one that names a row no other
pub one_sampled : (place row j : ℕ) (ws : List RowWork) (w : RowWork) → place ≢ 0 → row ≡ j + 1 → j < length ws → w ≡ sampled place row j (get_or ws j no_work) → set ws j w ≡ each_from (sampled place row) 0 ws
one_sampled place row j ws w p e h is =
    one_taken (sampled place row) ws j no_work w h is (λ k x other. sampled_other place row k x p (λ z. other (omega arith)))

-- a row that is not named does not run
worked_other : (row k : ℕ) (w : RowWork) → row ≢ k + 1 → worked row k w ≡ w
worked_other row k w other = rw (ne_eqb row (k + 1) other) (ap (λ (n : ℕ). record w { left = n }) (sub-zero w.left))

-- to run no row changes none
pub none_worked : (row : ℕ) (ws : List RowWork) → row ≡ 0 → ws ≡ each_from (worked row) 0 ws
none_worked row ws e = none_taken (worked row) ws no_work (λ k h. worked_other row k (get_or ws k no_work) (λ z. omega arith))

-- to run one changes that one
pub one_worked : (row j : ℕ) (ws : List RowWork) (w : RowWork) → row ≡ j + 1 → j < length ws → w ≡ record (get_or ws j no_work) { left = (get_or ws j no_work).left - 1 }
    → set ws j w ≡ each_from (worked row) 0 ws
one_worked row j ws w e h is =
    one_taken (worked row) ws j no_work w h (is ∙ sym (rw (eq-eqb row (j + 1) e)))
    (λ k x other. worked_other row k x (λ z. other (omega arith)))

-- the samples and then the run of a slot
pub works_after : (place row : ℕ) (old mid new : List RowWork) → mid ≡ each_from (sampled place row) 0 old → new ≡ each_from (worked row) 0 mid → new ≡ each_from (work_after place row) 0 old
works_after place row old mid new e f = f ∙ ap (each_from (worked row) 0) e ∙ each_twice (worked row) (sampled place row) 0 old

-- where the slots come next after so many, an array's first rows are those that were written there
pub rows_written : (n : ℕ) (ws rest : List RowWork) → length ws ≡ n → take n (ws ++ rest) ≡ ws
rows_written n ws rest e = rw (← e) (take-append_seam ws rest)

-- a slot later
pub moved : (p : Position) (row : ℕ) (mid new : List RowWork) (place : ℕ) → row ≡ row_named p → mid ≡ each_from (sampled p.place row) 0 p.rows → new ≡ each_from (worked row) 0 mid → place ≡ (strip_next p).place
    → ◌≡◌ {A = Position} (record p { place = place; rows = new }) (strip_next p)
moved p row mid new place named taken run next =
    let rows = works_after p.place row p.rows mid new taken run in
    let after = rows ∙ ap (λ (n : ℕ). each_from (work_after p.place n) 0 p.rows) named in
    ap (λ (n : ℕ). record p { place = n; rows = new }) next ∙ ap (λ (ws : List RowWork). record p { place = (strip_next p).place; rows = ws }) after

-- a comparison of two positions says yes exactly when they are equal
pub compared : (p q : Position) (r : Bool) → r ≡ same_position p q → IsTrue r ↔ (p ≡ q)
compared p q r e = rw e (positions_decide p q)
