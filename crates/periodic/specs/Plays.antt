-- What periodic refresh means, as a law over whole courses, with no word of what a policy keeps.
use Rattle.std.specs.Prelude.{◌≡◌, ℕ, zero, suc, ◌+◌, ◌-◌, ◌%◌, ◌^◌, ◌<◌, ◌≤◌, EachIndex, if◌then◌else◌, List, length, slice_index_or, ◌==◌}
use Rattle.policy.specs.Course.{Course, names}
use Rattle.planner.specs.Timing.{blank_timing}
use Rattle.planner.specs.declared.timing.Timing.{Timing}

-- the work that row k + 1 has left in slot n, once the slot's samples are taken: its work length in
-- a slot with a sample, and one less after each slot that ran the row
abbrev pub left_in : Timing → ℕ → Course → ℕ → ℕ
left_in t k course zero = t.work
left_in t k course (suc n) =
    if suc n % t.period == 0 then t.work
    else left_in t k course n - (if (course n).1 == k + 1 then 1 else 0)

module _ (ts : List Timing) (course : Course) where
  -- the work that row k + 1 of these has left
  abbrev pub left_at : ℕ → ℕ → ℕ
  left_at k n = left_in (slice_index_or ts k blank_timing) k course n

  -- each row is sampled every period, first in slot 0; the lowest row with work left runs
  pub record Plays : Type 0 where
    pub samples : (n : ℕ) → EachIndex ts (λ k.
        names (course n).0 k ≡ (n % (slice_index_or ts k blank_timing).period == 0))
    pub no_others : (n : ℕ) → (course n).0 < 2 ^ length ts
    pub runs : (n : ℕ) → EachIndex ts (λ k. (course n).1 ≡ k + 1 → 0 < left_at k n)
    pub lowest_first : (n : ℕ) → EachIndex ts (λ j. j + 1 < (course n).1 → left_at j n ≡ 0)
    pub idles : (n : ℕ) → EachIndex ts (λ j. (course n).1 ≡ 0 → left_at j n ≡ 0)
    pub within : (n : ℕ) → (course n).1 ≤ length ts
