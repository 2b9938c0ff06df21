-- The periods that each planner gives to the rows of a list.
use Rattle.std.specs.Option.{option_map_or}
use Rattle.std.specs.Prelude.{◌≡◌, ℕ, ◌+◌, ◌-◌, ◌/◌, ◌<◌, ◌≤◌, EachIndex, List, [], ◌∷◌, ◌++◌, map, length, take, Ok, Err, Result, slice_index_or}
use Rattle.readings.specs.Ranges.{blank as no_reading}
use Rattle.readings.specs.Refusals.{Content}
use Rattle.readings.specs.declared.reading.Reading.{Reading}
use Rattle.planner.specs.Response.{IsResponseTime, NoResponseTime, response_time}
use Rattle.planner.specs.Timing.{blank_timing}
use Rattle.planner.specs.declared.timing.Timing.{Timing}

-- a row with this period
abbrev pub timing_of : Reading → ℕ → Timing
timing_of r period = record { work = r.work; period = period }

-- Half-Half of a row: the period is half of the validity, rounded down
abbrev pub half_timing : Reading → Timing
half_timing r = timing_of r (r.validity / 2)

-- Half-Half
abbrev pub half_half : List Reading → List Timing
half_half = map half_timing

-- More-Less for the rows below those that have their periods: the period is what the response time
-- leaves of the validity; the first row without a response time refuses the list, with 5 and its
-- number
abbrev pub more_less_below : List Timing → List Reading → Result (List Timing) Content
more_less_below above [] = Ok above
more_less_below above (r ∷ rs) =
    option_map_or (λ d. more_less_below (above ++ timing_of r (r.validity - d) ∷ []) rs)
    (response_time above r.work r.validity) (Err (5, (length above + 1) ∷ []))

-- More-Less
abbrev pub more_less : List Reading → Result (List Timing) Content
more_less = more_less_below []

-- the law of a row of More-Less, below these: it keeps its work length, and its validity is its
-- period and its response time together
pub record MoreLessRow (above : List Timing) (r : Reading) (t : Timing) : Type 0 where
  pub work : t.work ≡ r.work
  pub within : t.period ≤ r.validity
  pub response : IsResponseTime above r.work r.validity (r.validity - t.period)

-- the law of More-Less: each row has its timing, and follows that law
pub record MoreLess (rs : List Reading) (ts : List Timing) : Type 0 where
  pub count : length ts ≡ length rs
  pub rows : EachIndex rs (λ k.
      MoreLessRow (take k ts) (slice_index_or rs k no_reading) (slice_index_or ts k blank_timing))

-- the law of its refusal: row k + 1 is the first without a response time
pub record NoneAt (rs : List Reading) (k : ℕ) : Type 0 where
  pub inside : k < length rs
  pub above : List Timing
  pub planned_above : MoreLess (take k rs) above
  pub unsettled :
      NoResponseTime above (slice_index_or rs k no_reading).work
      (slice_index_or rs k no_reading).validity

-- both laws
abbrev pub Planned : List Reading → Result (List Timing) Content → Type 0
Planned rs (Ok ts) = MoreLess rs ts
Planned rs (Err refusal) = (k : ℕ) × (refusal ≡ (5, (k + 1) ∷ [])) × NoneAt rs k
