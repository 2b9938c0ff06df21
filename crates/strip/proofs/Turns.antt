-- What books that are equal at a mark m and at a later instant t say of the jobs of a laid row.
use Rattle.std.proofs.Common.{◌≡◌, ℕ, ◌+◌, ◌<◌, ◌≤◌, ◌⊎◌}
use Rattle.deferral.specs.Free.{Free, free_between}
use Rattle.deferral.specs.declared.span.Span.{Span}

-- the job after job i is sampled at or past the mark, and the job after job j at or past t
pub record NextAhead (spans : ℕ → Span) (last m t i j : ℕ) : Type 0 where
  pub first : m ≤ (spans (i + 1)).sample
  pub again : j + 1 ≤ last → t ≤ (spans (j + 1)).sample

-- the job after job i is open at the mark, and the job after job j, just as old, at t
pub record NextOpen (spans : ℕ → Span) (last m t i j : ℕ) : Type 0 where
  pub laid : j + 1 ≤ last
  pub same : (spans (j + 1)).sample + m ≡ (spans (i + 1)).sample + t
  pub runs_on : m < (spans (i + 1)).deadline

-- job i is the last that is done by the mark, and job j the last that is done by t; their samples
-- are as old then and there
pub record Turn (free : Free) (spans : ℕ → Span) (last m t : ℕ) : Type 0 where
  pub i : ℕ
  pub j : ℕ
  pub order : i < j
  pub laid : j ≤ last
  pub began : (spans i).sample ≤ m
  pub same : (spans j).sample + m ≡ (spans i).sample + t
  pub done : free_between free m (spans i).deadline ≡ 0
  pub done_again : free_between free t (spans j).deadline ≡ 0
  pub next : NextAhead spans last m t i j ⊎ NextOpen spans last m t i j
