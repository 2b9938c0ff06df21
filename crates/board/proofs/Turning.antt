-- One row through a tick: its age and its job go on as the ticks since its id came on tell.
use Rattle.std.proofs.Common.{◌≡◌, ℕ, zero, suc, ◌+◌, ◌-◌, ◌<◌, ◌≤◌, Bool, true, false, cond, eqb, List, ◌∷◌, length, take, drop, Some, None, is_some, Option, sym, refl, ap, ◌∙◌, inl, inr, add-one, arith}
use Rattle.std.proofs.lemmas.Bool.{both_ways, cases_Bool, eqb-false, eqb-true}
use Rattle.policy.specs.Course.{Answer, names}
use Rattle.readings.specs.declared.reading.Reading.{Reading}
use Rattle.books.specs.declared.row.Job.{Job}
use Rattle.books.specs.declared.row.Row.{Row}
use Rattle.books.specs.Rows.{closed, closed_by, finished, grown, has_work, opened, ran}
use Rattle.books.specs.Slots.{judged, sampled, row_after}
use Rattle.books.proofs.Keeps.{work_keeps}
use Rattle.board.specs.Ages.{AgeMeans, NoneShown, RowTick, back, runs_in}
use Rattle.board.specs.Tallies.{JobTallies, RowTallies, WorkedOn}

-- a row when its age is judged, by whether it is sampled and whether it is run
abbrev judged_of : Bool → Bool → Row → Row
judged_of samp run r = grown (cond run (ran (cond samp (opened r) r)) (cond samp (opened r) r))

-- one tick more
module _ (x : RowTick) (ticks : List RowTick) where
  -- what lay some ticks back lies one tick further back
  back_on : (n : ℕ) → 0 < n → back (n + 1) (x ∷ ticks) ≡ back n ticks
  back_on zero h = absurd (omega arith)
  back_on (suc n) h =
      let e : suc n + 1 - 1 ≡ suc n = omega arith in
      let f : suc n - 1 ≡ n = omega arith in
      rw (e, f)

  none_on : (n : ℕ) → NoneShown n ticks → x.shown ≡ false → NoneShown (n + 1) (x ∷ ticks)
  none_on n none e zero h = e
  none_on n none e (suc m) h = none m (omega arith)

  span_on : (s n : ℕ) → drop (s + 1) (take (n + 1) (x ∷ ticks)) ≡ drop s (take n ticks)
  span_on s n = rw (add-one s, add-one n)

  -- what was on show stays, where no value goes on show
  value_on : (shown : Bool) (age : ℕ) → AgeMeans ticks shown age → x.shown ≡ false → AgeMeans (x ∷ ticks) shown (age + 1)
  value_on true age v e =
      let s = back_on age (omega (arith, v.after)) in
      let f = back_on (v.since + 1) (omega arith) in
      record {
        since = v.since + 1;
        after = omega (arith, v.after);
        within = omega (arith, v.within);
        sampled = ap (λ (t : RowTick). t.sampled) s ∙ v.sampled;
        shown = ap (λ (t : RowTick). t.shown) f ∙ v.shown;
        last = ap (λ (t : RowTick). t.ran) f ∙ v.last;
        work = ap runs_in (span_on v.since age) ∙ v.work ∙ ap (λ (t : RowTick). t.work) (sym s);
        latest = none_on v.since v.latest e;
      }
  value_on false age v e = record { age_is = omega (arith, v.age_is); none = rw (← add-one) (none_on (length ticks) v.none e) }

  -- the job of a sample in this tick
  begins : (work left : ℕ) → x.sampled ≡ true → x.work ≡ work → cond x.ran 1 0 + left ≡ work → WorkedOn (x ∷ ticks) work (record { age = 0 + 1; left = left })
  begins work left s w e =
      record { begun = omega arith; within = omega arith; sampled = s; whole = w; done = omega arith }

  -- an open job one tick on
  goes_on : (work left : ℕ) (j : Job) → WorkedOn ticks work j → cond x.ran 1 0 + left ≡ j.left → WorkedOn (x ∷ ticks) work (record { age = j.age + 1; left = left })
  goes_on work left j g e =
      let s = back_on j.age g.begun in
      record {
        begun = omega arith;
        within = omega (arith, g.within);
        sampled = ap (λ (t : RowTick). t.sampled) s ∙ g.sampled;
        whole = ap (λ (t : RowTick). t.work) s ∙ g.whole;
        done = rw (add-one j.age) (omega (arith, g.done));
      }

  -- a job that goes on, or closes in a tick that ran the row
  close_step : (rd : Reading) (shown : Bool) (age : ℕ) (j : Job) → AgeMeans ticks shown age → WorkedOn (x ∷ ticks) rd.work j
      → x.shown ≡ eqb j.left 0 → (j.left ≡ 0 → x.ran ≡ true)
      → RowTallies (x ∷ ticks) (closed (record { reading = rd; shown = shown; age = age + 1; job = Some j }))
  close_step rd shown age j v g s last =
      elim (cases_Bool (eqb j.left 0)) [
        | inl t ↦
            let z = eqb-true j.left 0 t in
            rw t (record {
              value = record {
                since = 0;
                after = g.begun;
                within = g.within;
                sampled = g.sampled;
                shown = s ∙ t;
                last = last z;
                work = omega (arith, g.done, g.whole);
                latest = λ m h. absurd (omega arith);
              };
              job = tt;
            })
        | inr f ↦ rw f (record { value = value_on shown age v (s ∙ f); job = g })
      ]

  -- the row, by whether it is sampled, whether it is run, and its job
  step : (rd : Reading) (shown : Bool) (age : ℕ) (o : Option Job) → 1 ≤ rd.work → AgeMeans ticks shown age → JobTallies ticks rd.work o → finished o ≡ false
      → (samp run : Bool) → x.sampled ≡ samp → x.ran ≡ run → x.work ≡ rd.work
      → x.shown ≡ finished (judged_of samp run (record { reading = rd; shown = shown; age = age; job = o })).job
      → (samp ≡ true → is_some o ≡ false)
      → (run ≡ true → has_work (cond samp (opened (record { reading = rd; shown = shown; age = age; job = o })) (record { reading = rd; shown = shown; age = age; job = o })).job ≡ true)
      → RowTallies (x ∷ ticks) (closed (judged_of samp run (record { reading = rd; shown = shown; age = age; job = o })))
  step rd shown age None p v g u false false s r w e closed' works = record { value = value_on shown age v e; job = tt }
  step rd shown age None p v g u false true s r w e closed' works = absurd (both_ways false refl (works refl))
  step rd shown age None p v g u true false s r w e closed' works =
      close_step rd shown age (record { age = 0 + 1; left = rd.work }) v
      (begins rd.work rd.work s w (rw r (omega arith))) e (λ z. absurd (omega arith))
  step rd shown age None p v g u true true s r w e closed' works =
      close_step rd shown age (record { age = 0 + 1; left = rd.work - 1 }) v
      (begins rd.work (rd.work - 1) s w (rw r (omega arith))) e (λ z. r)
  step rd shown age (Some j) p v g u true run s r w e closed' works = absurd (both_ways true (closed' refl) refl)
  step rd shown age (Some j) p v g u false false s r w e closed' works =
      close_step rd shown age (record { age = j.age + 1; left = j.left }) v
      (goes_on rd.work j.left j g (rw r (omega arith))) e (λ z. absurd (eqb-false j.left 0 u z))
  step rd shown age (Some j) p v g u false true s r w e closed' works =
      let some : j.left ≡ 0 → ⊥ = λ z. both_ways (has_work (Some j)) (rw z) (works refl) in
      close_step rd shown age (record { age = j.age + 1; left = j.left - 1 }) v
      (goes_on rd.work (j.left - 1) j g (rw r (omega (arith, some)))) e (λ z. r)

-- the tick that an answer makes for row k + 1
abbrev pub made : Answer → ℕ → Row → RowTick
made a k r = record { sampled = names a.0 k; ran = eqb a.1 (k + 1); shown = finished (judged a k r).job; work = r.reading.work }

-- a row through a tick without a fault
pub row_tallies : (ticks : List RowTick) (r : Row) → RowTallies ticks r → 1 ≤ r.reading.work → finished r.job ≡ false → (a : Answer) (k : ℕ)
    → (names a.0 k ≡ true → is_some r.job ≡ false) → (eqb a.1 (k + 1) ≡ true → has_work (sampled a.0 k r).job ≡ true)
    → RowTallies (made a k r ∷ ticks) (row_after a k r)
row_tallies ticks r t p u a k closed' works =
    step (made a k r) ticks r.reading r.shown r.age r.job p t.value t.job u (names a.0 k) (eqb a.1 (k + 1)) refl refl refl refl closed' works

-- a job finishes only in a tick that runs its row
finish_run : (rd : Reading) (shown : Bool) (age : ℕ) (o : Option Job) → 1 ≤ rd.work → finished o ≡ false → (samp run : Bool)
    → finished (judged_of samp run (record { reading = rd; shown = shown; age = age; job = o })).job ≡ true → run ≡ true
finish_run rd shown age o p u samp true f = refl
finish_run rd shown age None p u false false f = f
finish_run rd shown age (Some j) p u false false f = absurd (both_ways (eqb j.left 0) u f)
finish_run rd shown age None p u true false f = let z = eqb-true rd.work 0 f in absurd (omega arith)
finish_run rd shown age (Some j) p u true false f = let z = eqb-true rd.work 0 f in absurd (omega arith)

pub finish_runs : (r : Row) → 1 ≤ r.reading.work → finished r.job ≡ false → (a : Answer) (k : ℕ) → finished (judged a k r).job ≡ true → a.1 ≡ k + 1
finish_runs r p u a k f = eqb-true a.1 (k + 1) (finish_run r.reading r.shown r.age r.job p u (names a.0 k) (eqb a.1 (k + 1)) f)

closed_reading : (r : Row) (o : Option Job) → (closed_by r o).reading ≡ r.reading
closed_reading r None = refl
closed_reading r (Some j) = elim (cases_Bool (eqb j.left 0)) [ inl e ↦ rw e | inr e ↦ rw e ]

-- a row keeps its reading
pub row_after_reading : (a : Answer) (k : ℕ) (r : Row) → (row_after a k r).reading ≡ r.reading
row_after_reading a k r = closed_reading (judged a k r) (judged a k r).job ∙ (work_keeps a k r).reading
