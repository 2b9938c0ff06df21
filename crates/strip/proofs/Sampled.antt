-- Along a course that runs a row's endless jobs and samples it where no work is left, its samples are those of the jobs.
use Rattle.std.proofs.Common.{◌≡◌, ℕ, zero, suc, ◌+◌, ◌-◌, ◌<◌, ◌↔◌, ◌⊎◌, Bool, true, false, ◌&&◌, cond, eqb, List, length, get_or, refl, ap, sym, ◌∙◌, subst, inl, inr, add-one, arith}
use Rattle.std.proofs.lemmas.Bool.{and_from, and_left, and_right, both_ways, cases_order, eq-eqb, ne_eqb}
use Rattle.std.specs.Prelude.{◌==◌, ⊤}
use Rattle.policy.specs.Course.{Course, names}
use Rattle.deferral.specs.Free.{Free, Play, free_below, free_between}
use Rattle.deferral.specs.Jobs.{Jobs}
use Rattle.deferral.specs.Schedules.{RowSchedule, runs_of}
use Rattle.deferral.specs.declared.span.Span.{Span}
use Rattle.readings.specs.Ranges.{blank}
use Rattle.readings.specs.declared.reading.Reading.{Reading}
use Rattle.strip.specs.Plays.{Plays, left_before}
use Rattle.strip.proofs.Windows.{First, Opens, Rests, Standing, Windows, Works, each_slot, endless_windows, first_slot, later_job, sampled_later}

-- the work left a slot later, by whether the row is sampled and whether it is run
left_after : (w k : ℕ) (c : Course) (n : ℕ) (samp run : Bool) → names (c n).0 k ≡ samp → eqb (c n).1 (k + 1) ≡ run
    → left_before w k c (n + 1) ≡ cond samp w (left_before w k c n) - cond run 1 0
left_after w k c n samp run e g = rw (add-one n, e, g) refl

module _ (c : Course) (k w v : ℕ) (spans : ℕ → Span) (jobs : Jobs (runs_of c) k w v spans (λ j. ⊤)) (some : 0 < w) (first : names (c 0).0 k ≡ true)
    (later : (n : ℕ) → 0 < n → names (c n).0 k ≡ ((c n).1 == k + 1 && left_before w k c n == 0)) where
  abbrev play : Play
  play = runs_of c

  abbrev free : Free
  free = free_below play k

  windows : Windows play k w spans (λ j. ⊤)
  windows = endless_windows play k w v spans jobs some

  -- job j is the last that is sampled before slot n, and the work left is what is still to come of its slots
  record Left (n : ℕ) : Type 0 where
    job : ℕ
    standing : Standing spans (λ j. ⊤) n job
    left : left_before w k c n ≡ free_between free n (spans job).deadline

  -- the slot is a job's sample and samples the row, or neither
  abbrev Sample : ℕ → Type 0
  Sample n = (names (c n).0 k ≡ true) × ((j : ℕ) × ((spans j).sample ≡ n)) ⊎ (names (c n).0 k ≡ false) × ((j : ℕ) → (spans j).sample ≡ n → ⊥)

  -- slot 0 samples the first job
  left_first : Left 1
  left_first =
      let s : First play k w spans (λ j. ⊤) = first_slot play k w spans (λ j. ⊤) windows in
      let z : 0 + 1 ≡ 1 = omega arith in
      record {
        job = 0;
        standing = s.standing;
        left = elim s.left [
          | inl (e, less) ↦ let step = left_after w k c 0 true true first (eq-eqb _ _ e) in rw z at step ∙ omega arith
          | inr (other, all) ↦ let step = left_after w k c 0 true false first (ne_eqb _ _ other) in rw z at step ∙ omega arith
        ];
      }

  -- no job is sampled between the last sample and the next
  no_sample : (n j : ℕ) → (spans j).sample < n → Standing spans (λ j. ⊤) (n + 1) j → (i : ℕ) → (spans i).sample ≡ n → ⊥
  no_sample n j began s i here =
      let more = later_job play k w spans (λ j. ⊤) windows j i tt (omega arith) in
      let ahead = s.ahead tt in
      elim (cases_order (j + 1) i) [
        | inl same ↦ let e = ap (λ (a : ℕ). (spans a).sample) same in omega arith
        | inr (inl less) ↦ let e = sampled_later play k w spans (λ j. ⊤) windows (j + 1) i less tt in omega arith
        | inr (inr fewer) ↦ omega arith
      ]

  -- a slot that opens the next job samples the row
  on_opens : (n : ℕ) → 0 < n → (b : Left n) → Opens play k w spans (λ j. ⊤) n b.job → Left (n + 1) × Sample n
  on_opens n past b o =
      let runs : eqb (c n).1 (k + 1) ≡ true = eq-eqb _ _ o.runs in
      let none : eqb (left_before w k c n) 0 ≡ true = eq-eqb _ _ (b.left ∙ o.none_left) in
      let samp : names (c n).0 k ≡ true = later n past ∙ and_from _ _ runs none in
      let all = o.left in
      let step = left_after w k c n true true samp runs in
      (record { job = b.job + 1; standing = o.standing; left = omega arith }, inl (samp, (b.job + 1, sym o.here)))

  -- a slot that the open job runs does not
  on_works : (n : ℕ) → 0 < n → (b : Left n) → Works play k spans (λ j. ⊤) n b.job → Left (n + 1) × Sample n
  on_works n past b o =
      let runs : eqb (c n).1 (k + 1) ≡ true = eq-eqb _ _ o.runs in
      let now = b.left in
      let less = o.left in
      let some' : eqb (left_before w k c n) 0 ≡ false = ne_eqb _ _ (λ e. omega arith) in
      let samp : names (c n).0 k ≡ false = later n past ∙ and_right _ _ some' in
      let step = left_after w k c n false true samp runs in
      (record { job = b.job; standing = o.standing; left = omega arith }, inr (samp, no_sample n b.job b.standing.began o.standing))

  -- nor does one that is not the row's
  on_rests : (n : ℕ) → 0 < n → (b : Left n) → Rests play k spans (λ j. ⊤) n b.job → Left (n + 1) × Sample n
  on_rests n past b o =
      let runs : eqb (c n).1 (k + 1) ≡ false = ne_eqb _ _ o.runs_not in
      let now = b.left in
      let same = o.left in
      let samp : names (c n).0 k ≡ false = later n past ∙ and_left _ _ runs in
      let step = left_after w k c n false false samp runs in
      (record { job = b.job; standing = o.standing; left = omega arith }, inr (samp, no_sample n b.job b.standing.began o.standing))

  -- the work left a slot later, and the sample of the slot
  left_on : (n : ℕ) → 0 < n → Left n → Left (n + 1) × Sample n
  left_on n past b =
      elim (each_slot play k w spans (λ j. ⊤) windows n b.job b.standing) [
        | inl o ↦ on_opens n past b o
        | inr (inl o) ↦ on_works n past b o
        | inr (inr o) ↦ on_rests n past b o
      ]

  -- the work left before each slot from slot 1 on
  left_at : (n : ℕ) → 0 < n → Left n
  left_at zero past = absurd (omega arith)
  left_at (suc zero) past = left_first
  left_at (suc (suc n)) past = subst Left (add-one (suc n)) (left_on (suc n) (omega arith) (left_at (suc n) (omega arith))).0

  -- the sample of each slot
  sample_at : (n : ℕ) → Sample n
  sample_at zero = inl (first, (0, jobs.first_sample))
  sample_at (suc n) = (left_on (suc n) (omega arith) (left_at (suc n) (omega arith))).1

  -- the samples of the row are those of the jobs
  pub job_samples : (n : ℕ) → (names (c n).0 k ≡ true) ↔ ((j : ℕ) × ((spans j).sample ≡ n))
  job_samples n =
      elim (sample_at n) [
        | inl (samp, here) ↦ (λ e. here, λ j. samp)
        | inr (none, nowhere) ↦ (λ e. absurd (both_ways _ none e), λ (j, here). absurd (nowhere j here))
      ]

-- a row with endless jobs in the slots that run it, where a strip is played
pub row_schedule : (rs : List Reading) (slots : List ℕ) (start end : ℕ) (c : Course) → Plays rs slots start end c → (k : ℕ) → k < length rs → 0 < (get_or rs k blank).work → (spans : ℕ → Span)
    → Jobs (runs_of c) k (get_or rs k blank).work (get_or rs k blank).validity spans (λ j. ⊤) → RowSchedule c k (get_or rs k blank)
row_schedule rs slots start end c plays k h some spans jobs =
    record {
      spans = spans;
      jobs = jobs;
      samples = job_samples c k (get_or rs k blank).work (get_or rs k blank).validity spans jobs some (plays.samples_first k h) (λ n past. plays.samples n past k h);
    }
