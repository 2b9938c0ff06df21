-- A new periodic policy plays its timings: what it keeps of each row in slot n, and the law that follows.
use Rattle.std.proofs.Common.{◌≡◌, ℕ, zero, suc, ◌+◌, ◌-◌, ◌%◌, ◌<◌, ◌≤◌, take, Bool, true, false, cond, eqb, List, map, length, get_or, sym, refl, ap, ◌∙◌, arith}
use native.Mathlib.Nat.{sub-zero}
use Rattle.std.proofs.lemmas.List.{get_or-map, length-map, take_all}
use Rattle.policy.proofs.Stepping.{last_step}
use Rattle.std.specs.Fn.{iterate}
use Rattle.planner.specs.Timing.{Positive, blank_timing}
use Rattle.planner.specs.declared.timing.Timing.{Timing}
use Rattle.periodic.specs.declared.phase.Phase.{Phase}
use Rattle.periodic.specs.Plays.{Plays, left_in}
use Rattle.periodic.specs.Phases.{begun, blank_phase, lowest, periodic_course, periodic_next, sampled, worked}
use Rattle.periodic.proofs.Masks.{mask_small, names_mask}
use Rattle.periodic.proofs.Until.{SlotsUntil, until_due, until_more, until_start}
use Rattle.periodic.proofs.Runs.{lowest_first, lowest_idles, lowest_within, lowest_works, run_at}
use Rattle.periodic.proofs.Steps.{length_run}

-- a row's numbers in slot n
record RowIn (t : Timing) (n : ℕ) (r : Phase) : Type 0 where
  timing : r.timing ≡ t
  phase : SlotsUntil t.period n r.until

record RowsIn (ts : List Timing) (n : ℕ) (rs : List Phase) : Type 0 where
  count : length rs ≡ length ts
  each : (k : ℕ) → k < length ts → RowIn (get_or ts k blank_timing) n (get_or rs k blank_phase)

sampled_row : (t : Timing) (n : ℕ) (r : Phase) → RowIn t n r → RowIn t (suc n) (sampled r)
sampled_row t n r i =
    record {
      timing = i.timing;
      phase = rw i.timing (until_more t.period n r.until i.phase);
    }

-- a run changes only the work left
run_row : (t : Timing) (n : ℕ) (r : Phase) (b : Bool) → RowIn t n r → RowIn t n (cond b (worked r) r)
run_row t n r true i = record { timing = i.timing; phase = i.phase }
run_row t n r false i = i

sampled_at : (rs : List Phase) (k : ℕ) → k < length rs → get_or (map sampled rs) k blank_phase ≡ sampled (get_or rs k blank_phase)
sampled_at rs k h = get_or-map sampled rs k blank_phase blank_phase h

rows_more : (ts : List Timing) (n : ℕ) (rs : List Phase) → RowsIn ts n rs → RowsIn ts (suc n) (periodic_next rs)
rows_more ts n rs i =
    record {
      count = length_run (map sampled rs) ∙ length-map rs sampled ∙ i.count;
      each = λ k h.
          rw (run_at (map sampled rs) k, sampled_at rs k (omega (arith, i.count)))
          (run_row (get_or ts k blank_timing) (suc n) (sampled (get_or rs k blank_phase)) (eqb (lowest (map sampled rs)) (k + 1)) (sampled_row (get_or ts k blank_timing) n (get_or rs k blank_phase) (i.each k h)));
    }

begun_at : (ts : List Timing) (k : ℕ) → k < length ts → get_or (map begun ts) k blank_phase ≡ begun (get_or ts k blank_timing)
begun_at ts k h = get_or-map begun ts k blank_timing blank_phase h

rows_in : (ts : List Timing) → Positive ts → (n : ℕ) → RowsIn ts n (iterate periodic_next n (map begun ts))
rows_in ts p zero =
    record {
      count = length-map ts begun;
      each = λ k h. rw (begun_at ts k h) (record { timing = refl; phase = until_start (get_or ts k blank_timing).period (p k blank_timing h) });
    }
rows_in ts p (suc n) = rw (last_step periodic_next n (map begun ts)) (rows_more ts n (iterate periodic_next n (map begun ts)) (rows_in ts p n))

-- the rows of a new policy in slot n
abbrev rows_at : List Timing → ℕ → List Phase
rows_at ts n = iterate periodic_next n (map begun ts)

-- the work left once the slot's sample is taken
left_sampled : (t : Timing) (n : ℕ) (r : Phase) → RowIn t n r → (sampled r).left ≡ cond (eqb (n % t.period) 0) t.work r.left
left_sampled t n r i = rw (until_due t.period n r.until i.phase, i.timing)

left_run : (b : Bool) (r : Phase) → (cond b (worked r) r).left ≡ r.left - cond b 1 0
left_run true r = refl
left_run false r = sym (sub-zero r.left)

left_at : (ts : List Timing) → Positive ts → (n k : ℕ) → k < length ts
    → (get_or (map sampled (rows_at ts n)) k blank_phase).left ≡ left_in (get_or ts k blank_timing) k (periodic_course (map begun ts)) n
left_at ts p zero k h =
    rw (sampled_at (map begun ts) k (omega (arith, length-map ts begun)), begun_at ts k h)
left_at ts p (suc n) k h =
    let t : Timing = get_or ts k blank_timing in
    let rs : List Phase = rows_at ts n in
    let r : Phase = get_or (rows_at ts (suc n)) k blank_phase in
    let b : Bool = eqb (lowest (map sampled rs)) (k + 1) in
    let i = rows_in ts p (suc n) in
    let was : r ≡ cond b (worked (get_or (map sampled rs) k blank_phase)) (get_or (map sampled rs) k blank_phase) = rw (last_step periodic_next n (map begun ts)) (run_at (map sampled rs) k) in
    let left : r.left ≡ left_in t k (periodic_course (map begun ts)) n - cond b 1 0 =
    ap (λ (q : Phase). q.left) was ∙ left_run b (get_or (map sampled rs) k blank_phase) ∙ ap (λ (m : ℕ). m - cond b 1 0) (left_at ts p n k h) in
    rw (sampled_at (rows_at ts (suc n)) k (omega (arith, i.count)))
    (left_sampled t (suc n) r (i.each k h) ∙ ap (λ (m : ℕ). cond (eqb (suc n % t.period) 0) t.work m) left)

pub periodic_plays : (ts : List Timing) → Positive ts → Plays ts (periodic_course (map begun ts))
periodic_plays ts p =
    record {
      samples = λ n k h.
          let i = rows_in ts p n in
          let r : Phase = get_or (rows_at ts n) k blank_phase in
          names_mask (rows_at ts n) k (omega (arith, i.count)) ∙ until_due (get_or ts k blank_timing).period n r.until (i.each k h).phase;
      no_others = λ n. rw (sym (rows_in ts p n).count) (mask_small (rows_at ts n));
      runs = λ n k h e. rw (sym (left_at ts p n k h)) (lowest_works (map sampled (rows_at ts n)) k e);
      lowest_first = λ n j h l. sym (left_at ts p n j h) ∙ lowest_first (map sampled (rows_at ts n)) j l;
      idles = λ n j h e. sym (left_at ts p n j h) ∙ lowest_idles (map sampled (rows_at ts n)) j e;
      within = λ n.
          let i = rows_in ts p n in
          omega (arith, lowest_within (map sampled (rows_at ts n)), length-map (rows_at ts n) sampled, i.count);
    }

-- as many timings as there may be all begin
pub all_begun : (ts : List Timing) (rows : List Phase) → length ts ≤ 16 → rows ≡ map begun (take 16 ts) → rows ≡ map begun ts
all_begun ts rows h e = e ∙ ap (map begun) (take_all 16 ts h)
