-- How the rows of a list are refreshed.
use Rattle.std.specs.Prelude.{◌≤◌, All, List, length}
use Rattle.planner.specs.declared.timing.Timing.{Timing}

-- a row with all numbers 0
abbrev pub blank_timing : Timing
blank_timing = record { work = 0; period = 0 }

-- each row has a period
abbrev pub Positive : List Timing → Type 0
Positive = All (λ t. 1 ≤ t.period)

-- the law of timings: 1 to 16 rows, each with a period
pub record WellTimed (ts : List Timing) : Type 0 where
  pub some : 1 ≤ length ts
  pub few : length ts ≤ 16
  pub positive : Positive ts
