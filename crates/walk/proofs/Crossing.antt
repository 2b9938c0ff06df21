-- The test for a crossing is exact.
use Rattle.std.proofs.Common.{◌≡◌, ℕ, ◌+◌, ◌<◌, ◌≤◌, Bool, false, true, List, map, length, get_or, is_some, IfSome, IsSome, OnSome, Some, None, Decides, Option, sym, refl, ap, ◌∙◌, subst, arith}
use Rattle.std.proofs.lemmas.List.{get_or-map, length-map}
use Rattle.std.proofs.lemmas.Bool.{both_ways}
use Rattle.std.proofs.lemmas.List.Elements.{All-from_get_or}
use Rattle.readings.specs.Ranges.{blank}
use Rattle.readings.specs.declared.reading.Reading.{Reading}
use Rattle.policy.specs.Course.{Course}
use Rattle.books.specs.Lookups.{Idle, row_of}
use Rattle.books.specs.Rows.{blank_row, come_on}
use Rattle.books.specs.Slots.{books_at, judged, judged_rows}
use Rattle.books.specs.declared.row.Row.{Row}
use Rattle.books.proofs.Began.{began_row}
use Rattle.books.proofs.Each.{get_or_each, length_each}
use Rattle.books.proofs.Keeps.{judged_fresh, work_keeps}
use Rattle.books.proofs.RowRuns.{books_length, books_row, row_at}
use Rattle.books.specs.Crossings.{carry, crossed}
use Rattle.books.specs.Valid.{Valid, aged}
use Rattle.walk.specs.Crossings.{InTime, Keeps, MayCross}
use Rattle.walk.specs.Acceptance.{Accepts}
use Rattle.walk.proofs.Beside.{needs, reading_at, stays}

module _ (old : List Row) (new : List Reading) (c : Course) (k : ℕ) (h : k < length new) where
  abbrev reading : Reading
  reading = get_or new k blank

  abbrev pub over : Row
  over = carry reading (row_of old reading.id)

  crossed_row : get_or (crossed old new) k blank_row ≡ over
  crossed_row = get_or-map (λ (d : Reading). carry d (row_of old d.id)) new k blank blank_row h

  crossed_length : (n : ℕ) → length (books_at c (crossed old new) n) ≡ length new
  crossed_length n = books_length c (crossed old new) n ∙ length-map new (λ (d : Reading). carry d (row_of old d.id))

  -- the row after a crossing and n slots
  pub crossed_at : (n : ℕ) → get_or (books_at c (crossed old new) n) k blank_row ≡ row_at c k over n
  crossed_at n =
      let l = length-map new (λ (d : Reading). carry d (row_of old d.id)) in
      books_row c (crossed old new) k (omega arith) n ∙ ap (λ (r : Row). row_at c k r n) crossed_row

  judged_at : (n : ℕ) → get_or (judged_rows (c n) (books_at c (crossed old new) n)) k blank_row ≡ judged (c n) k (row_at c k over n)
  judged_at n =
      let l = crossed_length n in
      get_or_each (judged (c n)) (books_at c (crossed old new) n) k blank_row (omega arith) ∙ ap (judged (c n) k) (crossed_at n)

  carried_reading : (d : Reading) (o : Option Row) → (carry d o).reading ≡ d
  carried_reading d None = refl
  carried_reading d (Some r) = refl

  pub over_reading : (n : ℕ) → (row_at c k over n).reading ≡ reading
  over_reading n = reading_at c k over n ∙ carried_reading reading (row_of old reading.id)

  pub judged_reading : (n : ℕ) → (judged (c n) k (row_at c k over n)).reading ≡ reading
  judged_reading n = (work_keeps (c n) k (row_at c k over n)).reading ∙ over_reading n

  pub judged_age : (n : ℕ) → (judged (c n) k (row_at c k over n)).age ≡ (row_at c k over n).age + 1
  judged_age n = ap (λ (a : ℕ). a + 1) (work_keeps (c n) k (row_at c k over n)).age

-- the row of an accepted course with new books
module _ (new : List Reading) (c : Course) (finishes : List ℕ) (accepts : Accepts c (map come_on new) finishes) (k : ℕ) (h : k < length new) where
  began_inside : k < length (map come_on new)
  began_inside = omega (arith, length-map new come_on)

  pub walk_row : (n : ℕ) → get_or (books_at c (map come_on new) n) k blank_row ≡ row_at c k (come_on (get_or new k blank)) n
  walk_row n = books_row c (map come_on new) k began_inside n ∙ ap (λ (r : Row). row_at c k r n) (began_row new k h)

  pub walk_fresh : (n : ℕ) → (row_at c k (come_on (get_or new k blank)) n).age + 1 ≤ (get_or new k blank).validity
  walk_fresh n =
      let r : Row = get_or (books_at c (map come_on new) n) k blank_row in
      let l = books_length c (map come_on new) n in
      let i = began_inside in
      let j = judged_fresh (c n) (books_at c (map come_on new) n) (accepts.faultless n) k (omega arith) in
      let w = work_keeps (c n) k r in
      let v = ap (λ (x : Reading). x.validity) w.reading in
      let e = ap (λ (x : Row). x.age) (walk_row n) in
      let d = ap (λ (x : Row). x.reading.validity) (walk_row n) in
      let g = ap (λ (x : Reading). x.validity) (reading_at c k (come_on (get_or new k blank)) n) in
      omega arith

  pub finish_here : (row_at c k (come_on (get_or new k blank)) (get_or finishes k 0)).shown ≡ true
  finish_here = ap (λ (x : Row). x.shown) (sym (walk_row (get_or finishes k 0))) ∙ (accepts.finish k began_inside).here

  pub finish_first : (m : ℕ) → m < get_or finishes k 0 → (row_at c k (come_on (get_or new k blank)) m).shown ≡ false
  finish_first m l = ap (λ (x : Row). x.shown) (sym (walk_row m)) ∙ (accepts.finish k began_inside).not_before m l

-- a shared row that is in time
on_time : (d : Reading) (f : ℕ) (o : Option Row) → IsSome o → IfSome o (λ r. Valid (aged f (carry d (Some r)))) → (carry d o).age + f ≤ d.validity
on_time d f None s t = absurd (both_ways false refl s)
on_time d f (Some r) s t = t

-- a fact on a value that there is
with_some : (o : Option Row) (P : Type 0) → (IsSome o → P) → OnSome o P
with_some None P h = tt
with_some (Some r) P h = h refl

at_some : (o : Option Row) (P : Type 0) → IsSome o → OnSome o P → P
at_some None P s h = absurd (both_ways false refl s)
at_some (Some r) P s h = h

module _ (old : List Row) (new : List Reading) (c : Course) (finishes : List ℕ) (accepts : Accepts c (map come_on new) finishes) where
  row_stays : (k : ℕ) (h : k < length new) → InTime old (get_or new k blank) (get_or finishes k 0)
      → IsSome (row_of old (get_or new k blank).id) → (n : ℕ) → (row_at c k (over old new c k h) n).age + 1 ≤ (get_or new k blank).validity
  row_stays k h t s =
      stays c k (get_or new k blank) (row_of old (get_or new k blank).id) (get_or finishes k 0) (walk_fresh new c finishes accepts k h) (finish_here new c finishes accepts k h) (finish_first new c finishes accepts k h)
      (on_time (get_or new k blank) (get_or finishes k 0) (row_of old (get_or new k blank).id) s t)

  shared_is : (k : ℕ) (r : Row) → r.reading ≡ get_or new k blank → IsSome (row_of old r.reading.id) → IsSome (row_of old (get_or new k blank).id)
  shared_is k r e s = ap (λ (d : Reading). is_some (row_of old d.id)) (sym e) ∙ s

  keeps : MayCross old new finishes → Keeps old new c
  keeps t =
      record {
        judged = λ n.
            let rs : List Row = judged_rows (c n) (books_at c (crossed old new) n) in
            All-from_get_or (λ r. OnSome (row_of old r.reading.id) (Valid r)) rs blank_row (λ k l.
            let a = length_each (judged (c n)) 0 (books_at c (crossed old new) n) in
            let b = books_length c (crossed old new) n in
            let m = length-map new (λ (d : Reading). carry d (row_of old d.id)) in
            let h : k < length new = omega arith in
            let r : Row = judged (c n) k (row_at c k (over old new c k h) n) in
            let g = judged_age old new c k h n in
            let v = ap (λ (x : Reading). x.validity) (judged_reading old new c k h n) in
            let there : OnSome (row_of old r.reading.id) (Valid r) = with_some _ _ (λ s.
            let fits = row_stays k h (t.in_time k h) (shared_is k r (judged_reading old new c k h n) s) n in
            omega arith) in
            subst (λ (x : Row). OnSome (row_of old x.reading.id) (Valid x)) (sym (judged_at old new c k h n)) there);
        ends = λ n.
            let rs : List Row = books_at c (crossed old new) n in
            All-from_get_or (λ r. OnSome (row_of old r.reading.id) (Valid r)) rs blank_row (λ k l.
            let b = books_length c (crossed old new) n in
            let m = length-map new (λ (d : Reading). carry d (row_of old d.id)) in
            let h : k < length new = omega arith in
            let r : Row = row_at c k (over old new c k h) n in
            let v = ap (λ (x : Reading). x.validity) (over_reading old new c k h n) in
            let there : OnSome (row_of old r.reading.id) (Valid r) = with_some _ _ (λ s.
            let fits = row_stays k h (t.in_time k h) (shared_is k r (over_reading old new c k h n) s) n in
            omega arith) in
            subst (λ (x : Row). OnSome (row_of old x.reading.id) (Valid x)) (sym (crossed_at old new c k h n)) there);
      }

  tested : (k : ℕ) (h : k < length new) (o : Option Row) → row_of old (get_or new k blank).id ≡ o → Keeps old new c → IfSome o (λ r. Valid (aged (get_or finishes k 0) (carry (get_or new k blank) (Some r))))
  tested k h None e kept = tt
  tested k h (Some r) e kept =
      let d : Reading = get_or new k blank in
      let f : ℕ = get_or finishes k 0 in
      let valid : (n : ℕ) → (row_at c k (carry d (row_of old d.id)) n).age + 1 ≤ d.validity = λ n.
      let a = length_each (judged (c n)) 0 (books_at c (crossed old new) n) in
      let b = crossed_length old new c k h n in
      let x : Row = judged (c n) k (row_at c k (over old new c k h) n) in
      let shared : IsSome (row_of old x.reading.id) = ap (λ (q : Reading). is_some (row_of old q.id)) (judged_reading old new c k h n) ∙ ap is_some e in
      let j = rw (judged_at old new c k h n) at (kept.judged n k blank_row (omega arith)) in
      let fits = at_some _ _ shared j in
      let g = judged_age old new c k h n in
      let v = ap (λ (q : Reading). q.validity) (judged_reading old new c k h n) in
      omega arith in
      let need = needs c k d (row_of old d.id) f (walk_fresh new c finishes accepts k h) (finish_here new c finishes accepts k h) (finish_first new c finishes accepts k h) valid in
      let age : (carry d (row_of old d.id)).age ≡ r.age = ap (λ (q : Option Row). (carry d q).age) e in
      omega arith

  -- the test is that no job is open and a crossing keeps every shared reading valid for ever
  pub test_keeps : MayCross old new finishes → Idle old × Keeps old new c
  test_keeps t = (t.idle, keeps t)

  pub keeps_test : Idle old → Keeps old new c → MayCross old new finishes
  keeps_test idle kept = record { idle = idle; in_time = λ k h. tested k h (row_of old (get_or new k blank).id) refl kept }

  pub exact : (r : Bool) → Decides r (MayCross old new finishes) → Decides r (Idle old × Keeps old new c)
  exact r t = (λ e. test_keeps (t.0 e), λ p. t.1 (keeps_test p.0 p.1))
