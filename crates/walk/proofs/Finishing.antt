-- First finishes, taken on instant by instant.
use Rattle.std.proofs.Common.{◌≡◌, ℕ, ◌+◌, ◌<◌, ◌≤◌, true, false, List, map, length, get_or, IsSome, Some, None, Option, sym, refl, ap, ◌∙◌, subst, inl, inr, arith}
use Rattle.std.proofs.lemmas.List.{get_or-map}
use Rattle.std.proofs.lemmas.List.Elements.{All-map}
use Rattle.std.proofs.lemmas.Bool.{cases_Bool, cases_eq}
use Rattle.readings.specs.Lists.{rows_of}
use Rattle.readings.specs.declared.list.Readings.{Readings}
use Rattle.readings.specs.declared.reading.Reading.{Reading}
use Rattle.policy.specs.Course.{Course}
use Rattle.books.specs.Ages.{AgeMeans, AgesCounted}
use Rattle.books.specs.Fresh.{Fresh}
use Rattle.books.specs.Rows.{blank_row, come_on}
use Rattle.books.specs.Slots.{books_at, fault_at}
use Rattle.books.specs.declared.row.Row.{Row}
use Rattle.books.proofs.Keeps.{judged_fresh, work_keeps}
use Rattle.books.proofs.RowRuns.{books_length}
use Rattle.walk.specs.Finishes.{FirstFinish, NoneShown, finish_so_far, is_shown}
use Rattle.walk.specs.Acceptance.{new_rows}

-- f is the first finish of row k + 1, if there is one by instant n
pub record FinishBy (c : Course) (rs : List Row) (k n : ℕ) (f : Option ℕ) : Type 0 where
  pub none : f ≡ None → (m : ℕ) → m ≤ n → is_shown c rs k m ≡ false
  pub some : (t : ℕ) → f ≡ Some t → FirstFinish c rs k t

-- at first there is none
pub finish_by_0 : (c : Course) (rs : List Row) (k : ℕ) → (get_or rs k blank_row).shown ≡ false → FinishBy c rs k 0 None
finish_by_0 c rs k e =
    record {
      none = λ _ m h. let z : m ≡ 0 = omega arith in subst (λ (m : ℕ). is_shown c rs k m ≡ false) (sym z) e;
      some = λ t h. let z : ◌≡◌ {A = ℕ} 0 1 = cc in absurd (omega arith);
    }

-- and at the next instant the one so far
pub finish_by_next : (c : Course) (rs : List Row) (k n : ℕ) (f g : Option ℕ) (r : Row) → FinishBy c rs k n f → r ≡ get_or (books_at c rs (n + 1)) k blank_row → g ≡ finish_so_far r f (n + 1) → FinishBy c rs k (n + 1) g
finish_by_next c rs k n (Some t) g r i e is =
    record {
      none = λ z. let no' : ◌≡◌ {A = ℕ} 0 1 = cc in absurd (omega arith);
      some = λ u h. i.some u (sym is ∙ h);
    }
finish_by_next c rs k n None g r i e is =
    elim (cases_Bool r.shown) [
      | inl t ↦
          let same : g ≡ Some (n + 1) = is ∙ rw t refl in
          let here : is_shown c rs k (n + 1) ≡ true = ap (λ (x : Row). x.shown) (sym e) ∙ t in
          record {
            none = λ h. let no' : ◌≡◌ {A = ℕ} 0 1 = cc in absurd (omega arith);
            some = λ u h. let at : n + 1 ≡ u = cc in subst (FirstFinish c rs k) at (record { here = here; not_before = λ m l. i.none refl m (omega arith) });
          }
      | inr no' ↦
          let same : g ≡ None = is ∙ rw no' refl in
          let here : is_shown c rs k (n + 1) ≡ false = ap (λ (x : Row). x.shown) (sym e) ∙ no' in
          record {
            none = λ _ m h.
                elim (cases_eq m (n + 1)) [
                  | inl last ↦ subst (λ (m : ℕ). is_shown c rs k m ≡ false) (sym last) here
                  | inr other ↦ i.none refl m (omega arith)
                ];
            some = λ u h. let z : ◌≡◌ {A = ℕ} 0 1 = cc in absurd (omega arith);
          }
    ]

-- of all rows, where these are the rows of the books
pub finishes_by_next : (c : Course) (rs : List Row) (n : ℕ) (rows : List Row) (old new : List (Option ℕ)) → rows ≡ books_at c rs (n + 1)
    → ((k : ℕ) → k < length rs → FinishBy c rs k n (get_or old k None))
    → ((k : ℕ) → k < length rows → get_or new k None ≡ finish_so_far (get_or rows k blank_row) (get_or old k None) (n + 1))
    → (k : ℕ) → k < length rs → FinishBy c rs k (n + 1) (get_or new k None)
finishes_by_next c rs n rows old new e was is k h =
    let l = books_length c rs (n + 1) in
    let m = ap length e in
    finish_by_next c rs k n (get_or old k None) (get_or new k None) (get_or rows k blank_row) (was k h) (ap (λ (qs : List Row). get_or qs k blank_row) e) (is k (omega arith))

-- without a value on show, the age of a row counts all slots
unshown_age : (r : Row) (c : Course) (k n : ℕ) → r.shown ≡ false → AgeMeans c k n r → r.age ≡ n
unshown_age r c k n e a = (rw e at a).0

-- by the largest validity each row has a first finish
pub finish_by_4095 : (c : Course) (rs : List Row) → ((n : ℕ) → fault_at c rs n ≡ None) → AgesCounted rs → Fresh (books_at c rs 4095)
    → (k : ℕ) (f : Option ℕ) → k < length rs → FinishBy c rs k 4095 f → IsSome f
finish_by_4095 c rs faultless ages fresh k (Some t) h i = refl
finish_by_4095 c rs faultless ages fresh k None h i =
    let r : Row = get_or (books_at c rs 4095) k blank_row in
    let l = books_length c rs 4095 in
    let waits = i.none refl 4095 (omega arith) in
    let age = unshown_age r c k 4095 waits (ages c 4095 (λ m _. faultless m) k h) in
    let late = judged_fresh (c 4095) (books_at c rs 4095) (faultless 4095) k (omega arith) in
    let w = work_keeps (c 4095) k r in
    let v = ap (λ (x : Reading). x.validity) w.reading in
    let s = fresh.validities k blank_row (omega arith) in
    absurd (omega arith)

-- where these are the first finishes, each is that of its row
pub finish_at : (c : Course) (rs : List Row) (n : ℕ) (finishes : List ℕ) (found : List (Option ℕ)) → map Some finishes ≡ found → (k : ℕ) → k < length finishes
    → FinishBy c rs k n (get_or found k None) → FirstFinish c rs k (get_or finishes k 0)
finish_at c rs n finishes found is k h by' =
    by'.some (get_or finishes k 0) (ap (λ (fs : List (Option ℕ)). get_or fs k None) (sym is) ∙ get_or-map Some finishes k 0 None h)

-- no row of new books has a value on show
pub new_unshown : (l : Readings) → NoneShown (new_rows l)
new_unshown l = All-map (λ r. r.shown ≡ false) come_on (rows_of l) (λ k d h. refl)
