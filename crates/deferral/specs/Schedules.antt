-- The endless schedule of a list by deferrable scheduling: the rules of laying without a limit, for
-- all rows at once.
use Rattle.std.specs.Prelude.{◌≡◌, ℕ, ◌^◌, ◌<◌, ◌≤◌, ◌↔◌, true, EachIndex, List, length, slice_index_or, ⊤}
use Rattle.readings.specs.Ranges.{blank}
use Rattle.readings.specs.declared.reading.Reading.{Reading}
use Rattle.policy.specs.Course.{Course, names}
use Rattle.deferral.specs.Free.{Play}
use Rattle.deferral.specs.Jobs.{Jobs}
use Rattle.deferral.specs.declared.span.Span.{Span}

-- the row that a course runs in each slot
abbrev pub runs_of : Course → Play
runs_of c n = (c n).1

-- row k + 1 along a course: its jobs have no end, it runs in the slots that they take and in no
-- other, and is sampled where they are sampled and nowhere else
pub record RowSchedule (c : Course) (k : ℕ) (r : Reading) : Type 0 where
  pub spans : ℕ → Span
  pub jobs : Jobs (runs_of c) k r.work r.validity spans (λ j. ⊤)
  pub samples : (n : ℕ) → (names (c n).0 k ≡ true) ↔ ((j : ℕ) × ((spans j).sample ≡ n))

-- a course is the endless schedule of a list
pub record Schedule (rs : List Reading) (c : Course) : Type 0 where
  pub rows : EachIndex rs (λ k. RowSchedule c k (slice_index_or rs k blank))
  pub no_others : (n : ℕ) → (c n).1 ≤ length rs
  pub no_other_samples : (n : ℕ) → (c n).0 < 2 ^ length rs
