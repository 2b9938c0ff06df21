-- A row's age counts the slots since the sample of the value on show or, with none, since the row came on.
use Rattle.std.proofs.Common.{◌≡◌, ℕ, zero, suc, ◌+◌, ◌-◌, ◌<◌, ◌≤◌, Bool, true, false, cond, eqb, Some, None, is_some, MatchBool, Option, sym, refl, subst, inl, inr, add-one, arith}
use Rattle.std.proofs.lemmas.Bool.{both_ways, cases_Bool, cases_eq, eqb-false, eqb-true, le-leb, lt-leb}
use Rattle.policy.specs.Course.{Course, names}
use Rattle.readings.specs.declared.reading.Reading.{Reading}
use Rattle.books.specs.declared.row.Job.{Job}
use Rattle.books.specs.declared.row.Row.{Row}
use Rattle.books.specs.Ages.{AgeMeans, Samples, ShownSince, Unfinished, run_count}
use Rattle.books.specs.Rows.{closed, come_on, grown, has_work, opened, ran}
use Rattle.books.specs.Slots.{sampled, row_after}

-- a row through a slot, by whether it is sampled and whether it is run
abbrev after_by : Bool → Bool → Row → Row
after_by samp run r = closed (grown (cond run (ran (cond samp (opened r) r)) (cond samp (opened r) r)))

module _ (c : Course) (k w : ℕ) (some_work : 0 < w) where
  run_step : (s n : ℕ) (b : Bool) → s ≤ n → eqb (c n).1 (k + 1) ≡ b → run_count c k s (n + 1) ≡ run_count c k s n + cond b 1 0
  run_step s n b h e = rw (add-one, le-leb s n h, e)

  run_none : (s n : ℕ) → n ≤ s → run_count c k s n ≡ 0
  run_none s zero h = refl
  run_none s (suc n) h = let i = run_none s n (omega arith) in rw (lt-leb s n (omega arith)) (omega arith)

  -- no slot from b on has sampled the row
  abbrev pub NoSample : ℕ → ℕ → Type 0
  NoSample b n = (u : ℕ) → b ≤ u → u < n → Samples c k u → ⊥

  -- a job of the only sample from b on
  pub record Working (b n : ℕ) (j : Job) : Type 0 where
    pub sample : ℕ
    pub later : b ≤ sample
    pub past : sample < n
    pub ago : sample + j.age ≡ n
    pub sampled : Samples c k sample
    pub done : run_count c k sample n + j.left ≡ w
    pub only : (u : ℕ) → b ≤ u → u < n → Samples c k u → u ≡ sample

  abbrev pub Jobs : ℕ → ℕ → Option Job → Type 0
  Jobs b n None = NoSample b n
  Jobs b n (Some j) = Working b n j × (0 < j.left)

  -- the value on show, whose sample is the last before b
  pub record Value (b n age : ℕ) : Type 0 where
    pub sample : ℕ
    pub bound : b ≡ sample + 1
    pub ago : sample + age ≡ n
    pub sampled : Samples c k sample
    pub finish : ℕ
    pub after : sample ≤ finish
    pub before : finish < n
    pub last : (c finish).1 ≡ k + 1
    pub work : run_count c k sample (finish + 1) ≡ w

  abbrev pub Values : ℕ → ℕ → Bool → ℕ → Type 0
  Values b n true age = Value b n age
  Values b n false age = (age ≡ n) × (b ≡ 0)

  pub record Tracks (n : ℕ) (r : Row) : Type 0 where
    pub work : r.reading.work ≡ w
    pub bound : ℕ
    pub value : Values bound n r.shown r.age
    pub job : Jobs bound n r.job

  value_on : (b n age : ℕ) (shown : Bool) → Values b n shown age → Values b (n + 1) shown (age + 1)
  value_on b n age true v =
      record { sample = v.sample; bound = v.bound; ago = omega arith; sampled = v.sampled; finish = v.finish; after = v.after; before = omega arith; last = v.last; work = v.work }
  value_on b n age false v = (omega arith, v.1)

  value_past : (b n age : ℕ) (shown : Bool) → Values b n shown age → b ≤ n
  value_past b n age true v = omega arith
  value_past b n age false v = omega arith

  not_here : (n u : ℕ) → names (c n).0 k ≡ false → u ≡ n → Samples c k u → ⊥
  not_here n u none e s = both_ways (names (c n).0 k) none (subst (Samples c k) e s)

  no_sample_on : (b n : ℕ) → NoSample b n → names (c n).0 k ≡ false → NoSample b (n + 1)
  no_sample_on b n none here u h l s =
      elim (cases_eq u n) [ inl e ↦ not_here n u here e s | inr d ↦ none u h (omega arith) s ]

  -- a job goes on, or closes where its last slot of work was the slot before
  close_step : (rd : Reading) (shown : Bool) (age : ℕ) (j : Job) (b n : ℕ) → rd.work ≡ w → Values b (n + 1) shown age → Working b (n + 1) j
      → (j.left ≡ 0 → (c n).1 ≡ k + 1) → Tracks (n + 1) (closed (record { reading = rd; shown = shown; age = age; job = Some j }))
  close_step rd shown age j b n e v g last =
      elim (cases_Bool (eqb j.left 0)) [
        | inl t ↦
            let z = eqb-true j.left 0 t in
            rw t (record {
              work = e;
              bound = g.sample + 1;
              value = record { sample = g.sample; bound = refl; ago = g.ago; sampled = g.sampled; finish = n; after = omega arith; before = omega arith; last = last z; work = omega arith };
              job = λ u h l s. let i = g.only u (omega arith) l s in omega arith;
            })
        | inr f ↦ let z = eqb-false j.left 0 f in rw f (record { work = e; bound = b; value = v; job = (g, omega arith) })
      ]

  -- the job of a sample in this slot
  opens : (b n left : ℕ) (run : Bool) → b ≤ n → NoSample b n → names (c n).0 k ≡ true → eqb (c n).1 (k + 1) ≡ run → left + cond run 1 0 ≡ w
      → Working b (n + 1) (record { age = 0 + 1; left = left })
  opens b n left run h none here e l =
      let m = run_step n n run (omega arith) e in
      let z = run_none n n (omega arith) in
      record {
        sample = n;
        later = h;
        past = omega arith;
        ago = omega arith;
        sampled = here;
        done = omega arith;
        only = λ u i l s. elim (cases_eq u n) [ inl same ↦ same | inr d ↦ absurd (none u i (omega arith) s) ];
      }

  -- an open job one slot on
  goes_on : (b n : ℕ) (j : Job) (left : ℕ) (run : Bool) → Working b n j → names (c n).0 k ≡ false → eqb (c n).1 (k + 1) ≡ run → left + cond run 1 0 ≡ j.left
      → Working b (n + 1) (record { age = j.age + 1; left = left })
  goes_on b n j left run g here e l =
      let m = run_step g.sample n run (omega arith) e in
      record {
        sample = g.sample;
        later = g.later;
        past = omega arith;
        ago = omega arith;
        sampled = g.sampled;
        done = omega arith;
        only = λ u i l s. elim (cases_eq u n) [ inl same ↦ absurd (not_here n u here same s) | inr d ↦ g.only u i (omega arith) s ];
      }

  step : (n b : ℕ) (rd : Reading) (shown : Bool) (age : ℕ) (o : Option Job) → rd.work ≡ w → Values b n shown age → Jobs b n o
      → (samp run : Bool) → names (c n).0 k ≡ samp → eqb (c n).1 (k + 1) ≡ run
      → (samp ≡ true → is_some o ≡ false)
      → (run ≡ true → has_work (cond samp (opened (record { reading = rd; shown = shown; age = age; job = o })) (record { reading = rd; shown = shown; age = age; job = o })).job ≡ true)
      → Tracks (n + 1) (after_by samp run (record { reading = rd; shown = shown; age = age; job = o }))
  step n b rd shown age None e v g false false s r closed' works =
      record { work = e; bound = b; value = value_on b n age shown v; job = no_sample_on b n g s }
  step n b rd shown age None e v g false true s r closed' works = absurd (both_ways false refl (works refl))
  step n b rd shown age None e v g true false s r closed' works =
      close_step rd shown (age + 1) (record { age = 0 + 1; left = rd.work }) b n e (value_on b n age shown v)
      (opens b n rd.work false (value_past b n age shown v) g s r (omega arith)) (λ z. absurd (omega arith))
  step n b rd shown age None e v g true true s r closed' works =
      close_step rd shown (age + 1) (record { age = 0 + 1; left = rd.work - 1 }) b n e (value_on b n age shown v)
      (opens b n (rd.work - 1) true (value_past b n age shown v) g s r (omega arith)) (λ z. eqb-true (c n).1 (k + 1) r)
  step n b rd shown age (Some j) e v g true run s r closed' works = absurd (both_ways true (closed' refl) refl)
  step n b rd shown age (Some j) e v g false false s r closed' works =
      close_step rd shown (age + 1) (record { age = j.age + 1; left = j.left }) b n e (value_on b n age shown v)
      (goes_on b n j j.left false g.0 s r (omega arith)) (λ z. absurd (omega (arith, g.1)))
  step n b rd shown age (Some j) e v g false true s r closed' works =
      close_step rd shown (age + 1) (record { age = j.age + 1; left = j.left - 1 }) b n e (value_on b n age shown v)
      (goes_on b n j (j.left - 1) true g.0 s r (omega (arith, g.1))) (λ z. eqb-true (c n).1 (k + 1) r)

  pub tracks_on : (n : ℕ) (r : Row) → Tracks n r → (names (c n).0 k ≡ true → is_some r.job ≡ false)
      → (eqb (c n).1 (k + 1) ≡ true → has_work (sampled (c n).0 k r).job ≡ true) → Tracks (n + 1) (row_after (c n) k r)
  tracks_on n r t closed' works =
      step n t.bound r.reading r.shown r.age r.job t.work t.value t.job (names (c n).0 k) (eqb (c n).1 (k + 1)) refl refl closed' works

  -- what is open is not finished
  unfinished : (b n : ℕ) (o : Option Job) → Jobs b n o → Unfinished c k w b n
  unfinished b n None g u h l s = absurd (g u h l s)
  unfinished b n (Some j) g u h l s =
      let e = g.0.only u h l s in
      let d = g.0.done in
      let m = g.1 in
      subst (λ (v : ℕ). run_count c k v n < w) (sym e) (omega arith)

  means : (b n age : ℕ) (shown : Bool) (o : Option Job) → Values b n shown age → Jobs b n o
      → MatchBool shown (ShownSince c k w n age) ((age ≡ n) × Unfinished c k w 0 n)
  means b n age true o v g =
      record {
        sample = v.sample;
        ago = v.ago;
        sampled = v.sampled;
        finish = v.finish;
        after = v.after;
        before = v.before;
        last = v.last;
        work = v.work;
        latest = subst (λ (m : ℕ). Unfinished c k w m n) v.bound (unfinished b n o g);
      }
  means b n age false o v g = (v.0, subst (λ (m : ℕ). Unfinished c k w m n) v.1 (unfinished b n o g))

  pub age_means : (n : ℕ) (r : Row) → Tracks n r → AgeMeans c k n r
  age_means n r t = subst (λ (v : ℕ). MatchBool r.shown (ShownSince c k v n r.age) ((r.age ≡ n) × Unfinished c k v 0 n)) (sym t.work) (means t.bound n r.age r.shown r.job t.value t.job)

  -- a row that comes on
  pub tracks_none : (rd : Reading) → rd.work ≡ w → Tracks 0 (come_on rd)
  tracks_none rd e = record { work = e; bound = 0; value = (refl, refl); job = λ u h l s. omega arith }
