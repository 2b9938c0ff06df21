-- The jobs of a row slot by slot: which one was sampled last, and how many of its slots are still to come.
use Rattle.std.proofs.Common.{◌≡◌, ℕ, zero, suc, ◌+◌, ◌<◌, ◌≤◌, ◌↔◌, ◌⊎◌, true, false, ap, sym, ◌∙◌, subst, inl, inr, add-one, arith}
use Rattle.std.proofs.lemmas.Bool.{cases_eq, cases_lt, cases_order, false_from_ne_true}
use Rattle.deferral.proofs.Counting.{between_first, between_none, one_if_free, one_if_taken}
use Rattle.deferral.proofs.Rules.{takes_from, takes_parts}
use Rattle.deferral.specs.Free.{Free, Play, free_below, free_between}
use Rattle.deferral.specs.Jobs.{Jobs, takes}
use Rattle.deferral.specs.Laid.{LaidRow}
use Rattle.deferral.specs.declared.span.Span.{Span}
use Rattle.readings.specs.declared.reading.Reading.{Reading}
use Rattle.std.specs.Prelude.{⊤}

-- row k + 1 runs in the slots of jobs that follow one another, each with w slots
pub record Windows (play : Play) (k w : ℕ) (spans : ℕ → Span) (Counts : ℕ → Type 0) : Type 0 where
  pub some_work : 0 < w
  pub first_sample : (spans 0).sample ≡ 0
  pub first_counts : Counts 0
  pub work : (j : ℕ) → Counts j → free_between (free_below play k) (spans j).sample (spans j).deadline ≡ w
  pub sample_is_free : (j : ℕ) → Counts (j + 1) → free_below play k (spans (j + 1)).sample ≡ true
  pub apart : (i j : ℕ) → i < j → Counts j → (spans i).deadline ≤ (spans j).sample
  pub runs : (n : ℕ) → (play n ≡ k + 1) ↔ ((j : ℕ) × Counts j × (takes (free_below play k) (spans j) n ≡ true))
  pub below : (i j : ℕ) → i ≤ j → Counts j → Counts i
  pub known : (j : ℕ) → Counts j ⊎ (Counts j → ⊥)

-- job j is the last that is sampled before slot n
pub record Standing (spans : ℕ → Span) (Counts : ℕ → Type 0) (n j : ℕ) : Type 0 where
  pub counts : Counts j
  pub began : (spans j).sample < n
  pub ahead : Counts (j + 1) → n ≤ (spans (j + 1)).sample

-- slot n is the first of the job after job j, all slots of which are past
pub record Opens (play : Play) (k w : ℕ) (spans : ℕ → Span) (Counts : ℕ → Type 0) (n j : ℕ) : Type 0 where
  pub here : n ≡ (spans (j + 1)).sample
  pub runs : play n ≡ k + 1
  pub none_left : free_between (free_below play k) n (spans j).deadline ≡ 0
  pub left : w ≡ 1 + free_between (free_below play k) (n + 1) (spans (j + 1)).deadline
  pub standing : Standing spans Counts (n + 1) (j + 1)

-- slot n is another one of job j
pub record Works (play : Play) (k : ℕ) (spans : ℕ → Span) (Counts : ℕ → Type 0) (n j : ℕ) : Type 0 where
  pub runs : play n ≡ k + 1
  pub left : free_between (free_below play k) n (spans j).deadline ≡ 1 + free_between (free_below play k) (n + 1) (spans j).deadline
  pub standing : Standing spans Counts (n + 1) j

-- slot n is not the row's
pub record Rests (play : Play) (k : ℕ) (spans : ℕ → Span) (Counts : ℕ → Type 0) (n j : ℕ) : Type 0 where
  pub runs_not : play n ≡ k + 1 → ⊥
  pub left : free_between (free_below play k) n (spans j).deadline ≡ free_between (free_below play k) (n + 1) (spans j).deadline
  pub standing : Standing spans Counts (n + 1) j

-- in slot 0, the row's or not, the first job is sampled
pub record First (play : Play) (k w : ℕ) (spans : ℕ → Span) (Counts : ℕ → Type 0) : Type 0 where
  pub left : ((play 0 ≡ k + 1) × (w ≡ 1 + free_between (free_below play k) 1 (spans 0).deadline))
      ⊎ ((play 0 ≡ k + 1 → ⊥) × (w ≡ free_between (free_below play k) 1 (spans 0).deadline))
  pub standing : Standing spans Counts 1 0

-- a window with slots in it ends past its beginning
pub not_empty : (f : Free) (a b : ℕ) → 0 < free_between f a b → a < b
not_empty f a b h =
    elim (cases_lt a b) [
      | inl less ↦ less
      | inr more ↦ let none = between_none f a b more in absurd (omega arith)
    ]

-- a free slot of a window is one of its slots
pub one_less : (f : Free) (n d : ℕ) → n < d → f n ≡ true → free_between f n d ≡ 1 + free_between f (n + 1) d
one_less f n d h e =
    let first = between_first f n d h in
    let one = one_if_free (f n) e in
    omega arith

-- any other slot is none of them
pub no_less : (f : Free) (n d : ℕ) → (n < d → f n ≡ false) → free_between f n d ≡ free_between f (n + 1) d
no_less f n d h =
    elim (cases_lt n d) [
      | inl less ↦
          let first = between_first f n d less in
          let one = one_if_taken (f n) (h less) in
          omega arith
      | inr more ↦
          let none = between_none f n d more in
          let still = between_none f (n + 1) d (omega arith) in
          omega arith
    ]

module _ (play : Play) (k w : ℕ) (spans : ℕ → Span) (Counts : ℕ → Type 0) (x : Windows play k w spans Counts) where
  -- a job is sampled before its deadline
  pub begins : (j : ℕ) → Counts j → (spans j).sample < (spans j).deadline
  begins j c =
      let some = x.some_work in
      let all = x.work j c in
      not_empty (free_below play k) (spans j).sample (spans j).deadline (omega arith)

  -- a later job is sampled later
  pub sampled_later : (i j : ℕ) → i < j → Counts j → (spans i).sample < (spans j).sample
  sampled_later i j h c =
      let begun = begins i (x.below i j (omega arith) c) in
      let later = x.apart i j h c in
      omega arith

  -- and what is sampled later is a later job
  pub later_job : (i j : ℕ) → Counts i → (spans i).sample < (spans j).sample → i < j
  later_job i j c h =
      elim (cases_order i j) [
        | inl same ↦ let e = ap (λ (n : ℕ). (spans n).sample) same in absurd (omega arith)
        | inr (inl less) ↦ less
        | inr (inr more) ↦ let back = sampled_later j i more c in absurd (omega arith)
      ]

  -- the slot of a job's sample is the row's
  sample_runs : (j : ℕ) → Counts (j + 1) → play (spans (j + 1)).sample ≡ k + 1
  sample_runs j c =
      let f : Free = free_below play k in
      let due = begins (j + 1) c in
      let taken = takes_from f (spans (j + 1)) (spans (j + 1)).sample (record { free = x.sample_is_free j c; from = omega arith; before = due }) in
      (x.runs (spans (j + 1)).sample).1 (j + 1, c, taken)

  -- the slot of the next sample opens the next job
  opens_at : (n j : ℕ) → Standing spans Counts n j → Counts (j + 1) → n ≡ (spans (j + 1)).sample → Opens play k w spans Counts n j
  opens_at n j s c here =
      let f : Free = free_below play k in
      let due = begins (j + 1) c in
      let all = x.work (j + 1) c in
      let apart = x.apart j (j + 1) (omega arith) c in
      let less = one_less f (spans (j + 1)).sample (spans (j + 1)).deadline due (x.sample_is_free j c) in
      let left : w ≡ 1 + free_between f ((spans (j + 1)).sample + 1) (spans (j + 1)).deadline = omega arith in
      record {
        here = here;
        runs = ap play here ∙ sample_runs j c;
        none_left = between_none f n (spans j).deadline (omega arith);
        left = subst (λ (a : ℕ). w ≡ 1 + free_between f (a + 1) (spans (j + 1)).deadline) (sym here) left;
        standing = record {
          counts = c;
          began = omega arith;
          ahead = λ d. let later = sampled_later (j + 1) (j + 1 + 1) (omega arith) d in omega arith;
        };
      }

  -- a slot of the row before the next sample is one of the last job
  works_at : (n j : ℕ) → Standing spans Counts n j → (Counts (j + 1) → n < (spans (j + 1)).sample) → play n ≡ k + 1 → (free_below play k n ≡ true) × (n < (spans j).deadline)
  works_at n j s before e =
      let f : Free = free_below play k in
      let (i, c, taken) = (x.runs n).0 e in
      let t = takes_parts f (spans i) n taken in
      let from = t.from in
      let due = t.before in
      let began = s.began in
      elim (cases_order i j) [
        | inl same ↦ (t.free, subst (λ (a : ℕ). n < (spans a).deadline) same due)
        | inr (inl less) ↦ let apart = x.apart i j less s.counts in absurd (omega arith)
        | inr (inr more) ↦
            let next : Counts (j + 1) = x.below (j + 1) i (omega arith) c in
            let ahead = before next in
            elim (cases_order (j + 1) i) [
              | inl same ↦ let e = ap (λ (a : ℕ). (spans a).sample) same in absurd (omega arith)
              | inr (inl less) ↦ let later = sampled_later (j + 1) i less c in absurd (omega arith)
              | inr (inr fewer) ↦ absurd (omega arith)
            ]
      ]

  -- before the next sample the last job stays the last
  stays_at : (n j : ℕ) → Standing spans Counts n j → (Counts (j + 1) → n < (spans (j + 1)).sample) → Standing spans Counts (n + 1) j
  stays_at n j s before =
      let began = s.began in
      record { counts = s.counts; began = omega arith; ahead = λ c. let later = before c in omega arith }

  -- and the slot is one of that job or not the row's
  stays : (n j : ℕ) → Standing spans Counts n j → (Counts (j + 1) → n < (spans (j + 1)).sample) → Works play k spans Counts n j ⊎ Rests play k spans Counts n j
  stays n j s before =
      let f : Free = free_below play k in
      elim (cases_eq (play n) (k + 1)) [
        | inl e ↦
            let (free, due) = works_at n j s before e in
            inl (record { runs = e; left = one_less f n (spans j).deadline due free; standing = stays_at n j s before })
        | inr no' ↦
            inr (record {
              runs_not = no';
              left = no_less f n (spans j).deadline (λ due.
                  false_from_ne_true (f n) (λ free.
                  let began = s.began in
                  no' ((x.runs n).1 (j, s.counts, takes_from f (spans j) n (record { free = free; from = omega arith; before = due })))));
              standing = stays_at n j s before;
            })
      ]

  -- what each slot is, from slot 1 on
  pub each_slot : (n j : ℕ) → Standing spans Counts n j → Opens play k w spans Counts n j ⊎ (Works play k spans Counts n j ⊎ Rests play k spans Counts n j)
  each_slot n j s =
      elim (x.known (j + 1)) [
        | inl c ↦
            let ahead = s.ahead c in
            elim (cases_eq n (spans (j + 1)).sample) [
              | inl here ↦ inl (opens_at n j s c here)
              | inr no' ↦ inr (stays n j s (λ d. omega arith))
            ]
        | inr last ↦ inr (stays n j s (λ d. absurd (last d)))
      ]

  -- what slot 0 is
  pub first_slot : First play k w spans Counts
  first_slot =
      let f : Free = free_below play k in
      let zero' = x.first_sample in
      let due = begins 0 x.first_counts in
      let all : free_between f 0 (spans 0).deadline ≡ w = subst (λ (a : ℕ). free_between f a (spans 0).deadline ≡ w) zero' (x.work 0 x.first_counts) in
      let z : 0 + 1 ≡ 1 = omega arith in
      record {
        left = elim (cases_eq (play 0) (k + 1)) [
          | inl e ↦
              let (i, c, taken) = (x.runs 0).0 e in
              let less = one_less f 0 (spans 0).deadline (omega arith) (takes_parts f (spans i) 0 taken).free in
              inl (e, sym all ∙ less)
          | inr no' ↦
              let less = no_less f 0 (spans 0).deadline (λ h.
              false_from_ne_true (f 0) (λ free.
              no' ((x.runs 0).1 (0, x.first_counts, takes_from f (spans 0) 0 (record { free = free; from = omega arith; before = h }))))) in
              inr (no', sym all ∙ less)
        ];
        standing = record {
          counts = x.first_counts;
          began = omega arith;
          ahead = λ c. let later = sampled_later 0 1 (omega arith) c in omega arith;
        };
      }

-- the jobs of a laid row
pub laid_windows : (play : Play) (k : ℕ) (r : Reading) (limit left : ℕ) (laid : LaidRow play k r limit left) → 0 < r.work
    → Windows play k r.work laid.spans (λ j. j ≤ laid.last)
laid_windows play k r limit left laid h =
    record {
      some_work = h;
      first_sample = laid.jobs.first_sample;
      first_counts = omega arith;
      work = laid.work;
      sample_is_free = λ j c. (laid.jobs.next j c).sample_is_free;
      apart = laid.apart;
      runs = laid.jobs.runs;
      below = λ i j l c. omega arith;
      known = λ j. elim (cases_lt laid.last j) [ inl less ↦ inr (λ c. omega arith) | inr more ↦ inl more ];
    }

module _ (play : Play) (k w v : ℕ) (spans : ℕ → Span) (jobs : Jobs play k w v spans (λ j. ⊤)) (some : 0 < w) where
  -- each of the endless jobs has its slots
  endless_work : (j : ℕ) → free_between (free_below play k) (spans j).sample (spans j).deadline ≡ w
  endless_work zero = subst (λ (a : ℕ). free_between (free_below play k) a (spans 0).deadline ≡ w) (sym jobs.first_sample) jobs.first.count
  endless_work (suc j) = rw (← add-one) (jobs.next j tt).count

  -- and ends before the next begins
  endless_apart : (i j : ℕ) → i < j → (spans i).deadline ≤ (spans j).sample
  endless_apart i zero h = absurd (omega arith)
  endless_apart i (suc j) h =
      let later : (spans j).deadline ≤ (spans (suc j)).sample = rw (← add-one) (jobs.next j tt).later in
      let all = endless_work j in
      let begun = not_empty (free_below play k) (spans j).sample (spans j).deadline (omega arith) in
      elim (cases_eq i j) [
        | inl same ↦ subst (λ (a : ℕ). (spans a).deadline ≤ (spans (suc j)).sample) (sym same) later
        | inr other ↦ let before = endless_apart i j (omega arith) in omega arith
      ]

  -- the jobs of a row that have no end
  pub endless_windows : Windows play k w spans (λ j. ⊤)
  endless_windows =
      record {
        some_work = some;
        first_sample = jobs.first_sample;
        first_counts = tt;
        work = λ j c. endless_work j;
        sample_is_free = λ j c. (jobs.next j c).sample_is_free;
        apart = λ i j l c. endless_apart i j l;
        runs = jobs.runs;
        below = λ i j l c. tt;
        known = λ j. inl tt;
      }
