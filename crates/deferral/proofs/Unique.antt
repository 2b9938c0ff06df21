-- There is one endless schedule of a list only.
use Rattle.std.proofs.Common.{◌≡◌, ℕ, zero, suc, ◌+◌, ◌<◌, ◌≤◌, ◌↔◌, Bool, true, List, length, get_or, ap, sym, ◌∙◌, subst, inl, inr, add-one, arith, EachIndex}
use Rattle.std.proofs.lemmas.Bool.{cases_Bool}
use Rattle.policy.specs.Course.{Answer, Course, names}
use Rattle.policy.specs.Policies.{SameCourse}
use Rattle.readings.specs.Ranges.{blank}
use Rattle.readings.specs.declared.reading.Reading.{Reading}
use Rattle.deferral.proofs.Frees.{AlikeAt, alike_all, alike_more, alike_none, free_alike}
use Rattle.deferral.proofs.Masks.{masks_equal}
use Rattle.deferral.proofs.Rules.{first_agree, first_one, next_agree, next_one, span_is}
use Rattle.deferral.specs.Free.{Play, free_below}
use Rattle.deferral.specs.Jobs.{Jobs, NextJob, takes}
use Rattle.deferral.specs.Schedules.{Schedule, runs_of}
use Rattle.deferral.specs.declared.span.Span.{Span}
use Rattle.std.specs.Prelude.{⊤}

-- the same slots of both are free for row k + 1, and the row has endless jobs in both
module _ (p q : Play) (k c v : ℕ) (some : 0 < c) (agree : (n : ℕ) → free_below p k n ≡ free_below q k n) (x y : ℕ → Span) (jobs : Jobs p k c v x (λ j. ⊤)) (jobs' : Jobs q k c v y (λ j. ⊤)) where
  -- then they are the same jobs
  spans_same : (j : ℕ) → x j ≡ y j
  spans_same zero =
      span_is (x 0) (y 0) (jobs.first_sample ∙ sym jobs'.first_sample)
      (first_one (free_below q k) c (x 0).deadline (y 0).deadline (first_agree (free_below p k) (free_below q k) c (x 0).deadline (λ n l. agree n) jobs.first) jobs'.first)
  spans_same (suc j) =
      let before = spans_same j in
      let next = next_agree (free_below p k) (free_below q k) c v (x j) (x (j + 1)) some (λ n l. agree n) (jobs.next j tt) in
      let there = subst (λ (s : Span). NextJob (free_below q k) c v s (y (j + 1))) (sym before) (jobs'.next j tt) in
      subst (λ (n : ℕ). x n ≡ y n) (add-one j) (next_one (free_below q k) c v (x j) (x (j + 1)) (y (j + 1)) some next there)

  -- which take the same slots
  takes_same : (j n : ℕ) → takes (free_below p k) (x j) n ≡ takes (free_below q k) (y j) n
  takes_same j n = let e = spans_same j in let f = agree n in cc

  -- so the row has the same slots of both
  runs_same : (n : ℕ) → (p n ≡ k + 1) ↔ (q n ≡ k + 1)
  runs_same n = (
    λ h. let (j, _, t) = (jobs.runs n).0 h in (jobs'.runs n).1 (j, tt, sym (takes_same j n) ∙ t),
    λ h. let (j, _, t) = (jobs'.runs n).0 h in (jobs.runs n).1 (j, tt, takes_same j n ∙ t),
  )

  samples_same : (n : ℕ) → ((j : ℕ) × ((x j).sample ≡ n)) ↔ ((j : ℕ) × ((y j).sample ≡ n))
  samples_same n = (
    λ s. (s.0, ap (λ (t : Span). t.sample) (sym (spans_same s.0)) ∙ s.1),
    λ s. (s.0, ap (λ (t : Span). t.sample) (spans_same s.0) ∙ s.1),
  )

-- two tests are one where each passes if the other does
same_test : (a b : Bool) → ((a ≡ true) → b ≡ true) → ((b ≡ true) → a ≡ true) → a ≡ b
same_test a b f g =
    elim (cases_Bool a) [
      | inl pass ↦ pass ∙ sym (f pass)
      | inr fail ↦
          elim (cases_Bool b) [
            | inl pass ↦ g pass ∙ sym pass
            | inr fail' ↦ fail ∙ sym fail'
          ]
    ]

module _ (rs : List Reading) (works : EachIndex rs (λ k. 0 < (get_or rs k blank).work)) (c d : Course) (x : Schedule rs c) (y : Schedule rs d) where
  -- each row in turn has the same slots of both
  rows_alike : (k : ℕ) → k ≤ length rs → (n : ℕ) → AlikeAt (runs_of c) (runs_of d) k n
  rows_alike zero h n = alike_none (runs_of c) (runs_of d) n
  rows_alike (suc k) h n =
      let above = rows_alike k (omega arith) in
      let r = x.rows k (omega arith) in
      let s = y.rows k (omega arith) in
      let agree : (m : ℕ) → free_below (runs_of c) k m ≡ free_below (runs_of d) k m = λ m. free_alike (runs_of c) (runs_of d) k m (above m) in
      let same = runs_same (runs_of c) (runs_of d) k (get_or rs k blank).work (get_or rs k blank).validity (works k (omega arith)) agree r.spans s.spans r.jobs s.jobs n in
      subst (λ (m : ℕ). AlikeAt (runs_of c) (runs_of d) m n) (add-one k) (alike_more (runs_of c) (runs_of d) k n (above n) same)

  runs_equal : (n : ℕ) → (c n).1 ≡ (d n).1
  runs_equal n = alike_all (runs_of c) (runs_of d) (length rs) n (rows_alike (length rs) (omega arith) n) (x.no_others n) (y.no_others n)

  samples_equal : (n k : ℕ) → k < length rs → names (c n).0 k ≡ names (d n).0 k
  samples_equal n k h =
      let r = x.rows k h in
      let s = y.rows k h in
      let agree : (m : ℕ) → free_below (runs_of c) k m ≡ free_below (runs_of d) k m = λ m. free_alike (runs_of c) (runs_of d) k m (rows_alike k (omega arith) m) in
      let same = samples_same (runs_of c) (runs_of d) k (get_or rs k blank).work (get_or rs k blank).validity (works k h) agree r.spans s.spans r.jobs s.jobs n in
      same_test (names (c n).0 k) (names (d n).0 k)
      (λ e. (s.samples n).1 (same.0 ((r.samples n).0 e)))
      (λ e. (r.samples n).1 (same.1 ((s.samples n).0 e)))

  -- two endless schedules of a list are one
  pub one_schedule : SameCourse c d
  one_schedule n =
      let samples = masks_equal (length rs) (c n).0 (d n).0 (x.no_other_samples n) (y.no_other_samples n) (samples_equal n) in
      let runs = runs_equal n in
      let same : ◌≡◌ {A = Answer} ((c n).0, (c n).1) ((d n).0, (d n).1) = cc in
      same
