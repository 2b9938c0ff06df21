-- What playing a strip means, as a law over whole courses, with no word of what a policy keeps.
use Rattle.std.specs.Prelude.{◌≡◌, ℕ, zero, suc, ◌+◌, ◌-◌, ◌^◌, ◌<◌, true, ◌&&◌, if◌then◌else◌, EachIndex, List, length, ◌==◌, slice_index, slice_index_or}
use Rattle.readings.specs.Ranges.{blank}
use Rattle.readings.specs.declared.reading.Reading.{Reading}
use Rattle.policy.specs.Course.{Course, names}
use Rattle.walk.specs.Loops.{in_loop}

-- the work that row k + 1 has left before slot n: none at first, its work length once it is
-- sampled, and one less after each slot that runs it
abbrev pub left_before : (work k : ℕ) → Course → ℕ → ℕ
left_before work k c zero = 0
left_before work k c (suc n) =
    (if names (c n).0 k then work else left_before work k c n) - (if (c n).1 == k + 1 then 1 else 0)

-- a strip for the rows of a list is played with this loop, both ends inside
pub record Plays (rs : List Reading) (slots : List ℕ) (first last : ℕ) (c : Course) : Type 0 where
  -- each slot runs the row that it names; after the loop's last slot comes its first
  pub runs : (n : ℕ) → (c n).1 ≡ slice_index slots (in_loop first (last + 1 - first) n)
  -- slot 0 samples every row
  pub samples_first : EachIndex rs (λ k. names (c 0).0 k ≡ true)
  -- later a slot samples the row that it names, if no work is left
  pub samples : (n : ℕ) → 0 < n → EachIndex rs (λ k.
      names (c n).0 k
      ≡ ((c n).1 == k + 1 && left_before (slice_index_or rs k blank).work k c n == 0))
  pub no_others : (n : ℕ) → (c n).0 < 2 ^ length rs
