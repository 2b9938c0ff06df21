-- A row that came over with an age, run beside the row as it would have come on: the two differ in age and
-- value only, and only up to the first finish.
use Rattle.std.proofs.Common.{◌≡◌, ℕ, zero, suc, ◌+◌, ◌-◌, ◌<◌, ◌≤◌, Bool, true, false, cond, eqb, Some, None, MatchBool, Option, sym, refl, ap, ◌∙◌, subst, inl, inr, add-zero, add-suc, add-one, arith}
use Rattle.std.proofs.lemmas.Bool.{both_ways, cases_Bool, cases_eq, cases_lt}
use Rattle.readings.specs.declared.reading.Reading.{Reading}
use Rattle.policy.specs.Course.{Answer, Course, names}
use Rattle.books.specs.Rows.{closed, closed_by, come_on, grown, opened, ran}
use Rattle.books.specs.Slots.{judged, row_after, worked}
use Rattle.books.specs.declared.row.Job.{Job}
use Rattle.books.specs.declared.row.Row.{Row}
use Rattle.books.proofs.Keeps.{work_keeps}
use Rattle.books.proofs.RowRuns.{row_at}
use Rattle.books.specs.Crossings.{carry}

-- a row with another age and value
abbrev pub with_age : Row → Bool → ℕ → Row
with_age w shown age = record { reading = w.reading; shown = shown; age = age; job = w.job }

-- after n slots x is w but for its age and value; before the first value of w its age counts on from the one
-- that it came over with, and then it is that of w
pub record Beside (from n : ℕ) (w x : Row) : Type 0 where
  pub shown : Bool
  pub age : ℕ
  pub is : x ≡ with_age w shown age
  pub counts : MatchBool w.shown (age ≡ w.age) (age ≡ from + n)

sampled_beside : (b : Bool) (w : Row) (s : Bool) (t : ℕ) → cond b (opened (with_age w s t)) (with_age w s t) ≡ with_age (cond b (opened w) w) s t
sampled_beside true w s t = refl
sampled_beside false w s t = refl

ran_beside : (b : Bool) (w : Row) (s : Bool) (t : ℕ) → cond b (ran (with_age w s t)) (with_age w s t) ≡ with_age (cond b (ran w) w) s t
ran_beside true w s t = refl
ran_beside false w s t = refl

worked_beside : (a : Answer) (k : ℕ) (w : Row) (s : Bool) (t : ℕ) → worked a k (with_age w s t) ≡ with_age (worked a k w) s t
worked_beside a k w s t =
    ap (λ (r : Row). cond (eqb a.1 (k + 1)) (ran r) r) (sampled_beside (names a.0 k) w s t)
    ∙ ran_beside (eqb a.1 (k + 1)) (cond (names a.0 k) (opened w) w) s t

close_beside : (from n : ℕ) (d : Reading) (was : Bool) (old : ℕ) (o : Option Job) (s : Bool) (t : ℕ) → MatchBool was (t ≡ old) (t ≡ from + n)
    → Beside from n (closed (record { reading = d; shown = was; age = old; job = o })) (closed (record { reading = d; shown = s; age = t; job = o }))
close_beside from n d was old None s t h = record { shown = s; age = t; is = refl; counts = h }
close_beside from n d was old (Some j) s t h =
    elim (cases_Bool (eqb j.left 0)) [
      | inl e ↦ rw e (record { shown = true; age = j.age; is = refl; counts = refl })
      | inr e ↦ rw e (record { shown = s; age = t; is = refl; counts = h })
    ]

counts_on : (from n : ℕ) (was : Bool) (old t : ℕ) → MatchBool was (t ≡ old) (t ≡ from + n) → MatchBool was (t + 1 ≡ old + 1) (t + 1 ≡ from + (n + 1))
counts_on from n true old t h = omega arith
counts_on from n false old t h = omega arith

slot_beside : (a : Answer) (k from n : ℕ) (w x : Row) → Beside from n w x → Beside from (n + 1) (row_after a k w) (row_after a k x)
slot_beside a k from n w x b =
    let v : Row = worked a k w in
    let keeps = work_keeps a k w in
    let same : worked a k x ≡ with_age v b.shown b.age = ap (worked a k) b.is ∙ worked_beside a k w b.shown b.age in
    let h : MatchBool v.shown (b.age ≡ v.age) (b.age ≡ from + n) = rw (keeps.shown, keeps.age) b.counts in
    subst (λ (y : Row). Beside from (n + 1) (row_after a k w) (closed (grown y))) (sym same)
    (close_beside from (n + 1) v.reading v.shown (v.age + 1) (grown v).job b.shown (b.age + 1) (counts_on from n v.shown v.age b.age h))

begins : (d : Reading) (o : Option Row) → Beside (carry d o).age 0 (come_on d) (carry d o)
begins d None = record { shown = false; age = 0; is = refl; counts = refl }
begins d (Some r) = record { shown = r.shown; age = r.age; is = refl; counts = omega arith }

pub beside_at : (c : Course) (k : ℕ) (d : Reading) (o : Option Row) (n : ℕ) → Beside (carry d o).age n (row_at c k (come_on d) n) (row_at c k (carry d o) n)
beside_at c k d o zero = begins d o
beside_at c k d o (suc n) =
    rw (← add-one) (slot_beside (c n) k (carry d o).age n (row_at c k (come_on d) n) (row_at c k (carry d o) n) (beside_at c k d o n))

closed_reading : (r : Row) (o : Option Job) → (closed_by r o).reading ≡ r.reading
closed_reading r None = refl
closed_reading r (Some j) = elim (cases_Bool (eqb j.left 0)) [ inl e ↦ rw e | inr e ↦ rw e ]

-- a row keeps its reading
pub reading_at : (c : Course) (k : ℕ) (r : Row) (n : ℕ) → (row_at c k r n).reading ≡ r.reading
reading_at c k r zero = refl
reading_at c k r (suc n) =
    let x : Row = row_at c k r n in
    closed_reading (judged (c n) k x) (judged (c n) k x).job ∙ (work_keeps (c n) k x).reading ∙ reading_at c k r n

closed_shown : (r : Row) (o : Option Job) → r.shown ≡ true → (closed_by r o).shown ≡ true
closed_shown r None e = e
closed_shown r (Some j) e = elim (cases_Bool (eqb j.left 0)) [ inl t ↦ rw t | inr f ↦ rw f e ]

-- a value stays on show
pub shown_on : (c : Course) (k : ℕ) (r : Row) (f n : ℕ) → (row_at c k r f).shown ≡ true → (row_at c k r (f + n)).shown ≡ true
shown_on c k r f zero e = rw add-zero e
shown_on c k r f (suc n) e =
    let x : Row = row_at c k r (f + n) in
    rw add-suc (closed_shown (judged (c (f + n)) k x) (judged (c (f + n)) k x).job ((work_keeps (c (f + n)) k x).shown ∙ shown_on c k r f n e))

-- a reading that no slot of the course leaves stale, with its first finish
module _ (c : Course) (k : ℕ) (d : Reading) (o : Option Row) (f : ℕ)
    (fresh : (n : ℕ) → (row_at c k (come_on d) n).age + 1 ≤ d.validity)
    (here : (row_at c k (come_on d) f).shown ≡ true)
    (not_before : (m : ℕ) → m < f → (row_at c k (come_on d) m).shown ≡ false) where
  waiting : (n : ℕ) → n < f → (row_at c k (carry d o) n).age ≡ (carry d o).age + n
  waiting n h =
      let b = beside_at c k d o n in
      ap (λ (r : Row). r.age) b.is ∙ (rw (not_before n h) at b.counts)

  served : (n : ℕ) → f ≤ n → (row_at c k (carry d o) n).age ≡ (row_at c k (come_on d) n).age
  served n h =
      let b = beside_at c k d o n in
      let e : f + (n - f) ≡ n = omega arith in
      let shown : (row_at c k (come_on d) n).shown ≡ true = subst (λ (m : ℕ). (row_at c k (come_on d) m).shown ≡ true) e (shown_on c k (come_on d) f (n - f) here) in
      ap (λ (r : Row). r.age) b.is ∙ (rw shown at b.counts)

  -- where it stays valid up to the first finish, it stays valid for ever
  pub stays : (carry d o).age + f ≤ d.validity → (n : ℕ) → (row_at c k (carry d o) n).age + 1 ≤ d.validity
  stays h n =
      elim (cases_lt n f) [
        | inl l ↦ let e = waiting n l in omega arith
        | inr g ↦ let e = served n g in let v = fresh n in omega arith
      ]

  -- and where it stays valid for ever, it is valid up to the first finish
  pub needs : ((n : ℕ) → (row_at c k (carry d o) n).age + 1 ≤ d.validity) → (carry d o).age + f ≤ d.validity
  needs h =
      elim (cases_eq f 0) [
        | inl z ↦ absurd (both_ways (row_at c k (come_on d) f).shown (subst (λ (m : ℕ). (row_at c k (come_on d) m).shown ≡ false) (sym z) refl) here)
        | inr p ↦ let e = waiting (f - 1) (omega arith) in let v = h (f - 1) in omega arith
      ]
