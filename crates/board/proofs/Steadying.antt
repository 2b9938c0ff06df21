-- What is steady along a course stays steady, slot by slot, and nothing in it is stale.
use Rattle.std.proofs.Common.{◌≡◌, ℕ, zero, suc, ◌+◌, ◌<◌, ◌≤◌, false, eqb, List, map, length, get_or, Some, None, Option, sym, refl, ap, ◌∙◌, subst, inl, inr, add-one, arith}
use Rattle.std.proofs.lemmas.Bool.{cases_Bool}
use Rattle.std.proofs.lemmas.List.{length-map}
use Rattle.std.proofs.lemmas.List.Elements.{All-from_get_or}
use Rattle.policy.specs.Course.{Course}
use Rattle.readings.specs.Ranges.{WellMade, blank}
use Rattle.readings.specs.declared.reading.Reading.{Reading}
use Rattle.books.specs.Fresh.{Fresh}
use Rattle.books.specs.Rows.{blank_row, closed_by, come_on, finished}
use Rattle.books.specs.Slots.{books_at, fault, judged, judged_rows, slot}
use Rattle.books.specs.declared.row.Job.{Job}
use Rattle.books.specs.declared.row.Row.{Row}
use Rattle.books.proofs.Began.{began_fresh, began_row}
use Rattle.books.proofs.Each.{get_or_each, length_each}
use Rattle.books.proofs.Keeps.{judged_fresh, slot_fresh, slot_length, slot_row, row_after_keeps, work_keeps}
use Rattle.walk.specs.Acceptance.{Accepts}
use Rattle.books.specs.Valid.{AllValid, Valid}
use Rattle.board.specs.Lasting.{Steady}
use Rattle.board.specs.Log.{from_next}

-- an accepted list is steady from new books on
pub begins_steady : (list : List Reading) (c : Course) (finishes : List ℕ) → WellMade list → Accepts c (map come_on list) finishes → Steady c (map come_on list)
begins_steady list c finishes well accepts =
    let l = length-map list come_on in
    record {
      faultless = accepts.faultless;
      fresh = began_fresh list well;
      works = All-from_get_or (λ (r : Row). 1 ≤ r.reading.work) (map come_on list) blank_row (λ k h.
          let i : k < length list = omega arith in
          subst (λ (r : Row). 1 ≤ r.reading.work) (sym (began_row list k i)) (well.works k blank i).0);
      undone = All-from_get_or (λ (r : Row). finished r.job ≡ false) (map come_on list) blank_row (λ k h.
          let i : k < length list = omega arith in
          subst (λ (r : Row). finished r.job ≡ false) (sym (began_row list k i)) refl);
    }

-- a slot on, the rest of the course leads to the same books
pub books_on : (c : Course) (rs : List Row) (n : ℕ) → books_at (from_next c) (slot (c 0) rs) n ≡ books_at c rs (n + 1)
books_on c rs zero = refl
books_on c rs (suc n) = ap (slot (c (n + 1))) (books_on c rs n) ∙ rw (add-one, add-one)

-- no slot ahead has a fault, so the books stay fresh
pub steady_at : (c : Course) (rs : List Row) → Steady c rs → (n : ℕ) → Fresh (books_at c rs n)
steady_at c rs s zero = s.fresh
steady_at c rs s (suc n) = slot_fresh (c n) (books_at c rs n) (steady_at c rs s n) (s.faultless n)

-- a job that has closed is no longer open, and one that has not has work left
closed_undone : (r : Row) (o : Option Job) → r.job ≡ o → finished (closed_by r o).job ≡ false
closed_undone r None e = rw e refl
closed_undone r (Some j) e = elim (cases_Bool (eqb j.left 0)) [ inl t ↦ rw t refl | inr f ↦ rw f (rw e f) ]

-- a slot keeps the readings and leaves no job without work
module _ (c : Course) (rs : List Row) (s : Steady c rs) (k : ℕ) (h : k < length (slot (c 0) rs)) where
  inside : k < length rs
  inside = omega (arith, slot_length (c 0) rs)

  kept_reading : (get_or (slot (c 0) rs) k blank_row).reading ≡ (get_or rs k blank_row).reading
  kept_reading =
      let r : Row = get_or rs k blank_row in
      let f = s.fresh in
      ap (λ (x : Row). x.reading) (slot_row (c 0) rs k inside) ∙ (row_after_keeps (c 0) k r (f.jobs k blank_row inside)).reading ∙ (work_keeps (c 0) k r).reading

  kept_work : 1 ≤ (get_or (slot (c 0) rs) k blank_row).reading.work
  kept_work = let w = s.works k blank_row inside in let e = ap (λ (d : Reading). d.work) kept_reading in omega arith

  left_undone : finished (get_or (slot (c 0) rs) k blank_row).job ≡ false
  left_undone =
      let r : Row = judged (c 0) k (get_or rs k blank_row) in
      ap (λ (x : Row). finished x.job) (slot_row (c 0) rs k inside) ∙ closed_undone r r.job refl

pub steady_on : (c : Course) (rs : List Row) → Steady c rs → Steady (from_next c) (slot (c 0) rs)
steady_on c rs s =
    record {
      faultless = λ n. ap (fault (c (n + 1))) (books_on c rs n) ∙ s.faultless (n + 1);
      fresh = slot_fresh (c 0) rs s.fresh (s.faultless 0);
      works = All-from_get_or (λ (r : Row). 1 ≤ r.reading.work) (slot (c 0) rs) blank_row (kept_work c rs s);
      undone = All-from_get_or (λ (r : Row). finished r.job ≡ false) (slot (c 0) rs) blank_row (left_undone c rs s);
    }

-- nothing is stale now
pub steady_sound : (c : Course) (rs : List Row) → Steady c rs → AllValid rs
steady_sound c rs s = s.fresh.ages

-- nor in the next slot: not when ages are judged, and not at its end
pub tick_judged : (c : Course) (rs : List Row) → Steady c rs → AllValid (judged_rows (c 0) rs)
tick_judged c rs s =
    All-from_get_or Valid (judged_rows (c 0) rs) blank_row (λ k h.
    let i : k < length rs = omega (arith, length_each (judged (c 0)) 0 rs) in
    rw (get_or_each (judged (c 0)) rs k blank_row i) (judged_fresh (c 0) rs (s.faultless 0) k i))

pub tick_ends : (c : Course) (rs : List Row) → Steady c rs → AllValid (slot (c 0) rs)
tick_ends c rs s = steady_sound (from_next c) (slot (c 0) rs) (steady_on c rs s)
