-- Response times: how long a row's job takes when every row above is sampled with it.
use Rattle.std.specs.Int.{div_ceil}
use Rattle.std.specs.Option.{option_or}
use Rattle.std.specs.Prelude.{◌≡◌, ℕ, zero, suc, ◌+◌, ◌*◌, ◌/◌, ◌<◌, ◌≤◌, Bool, if◌then◌else◌, List, [], ◌∷◌, Some, None, Option, nat_eq}
use Rattle.planner.specs.declared.timing.Timing.{Timing}

-- the slots that a row takes out of r slots: its work length once a period
abbrev pub row_demand : Timing → ℕ → ℕ
row_demand t r = div_ceil r t.period * t.work

-- the slots that the rows above take out of r slots
abbrev pub demand : List Timing → ℕ → ℕ
demand [] r = 0
demand (t ∷ ts) r = row_demand t r + demand ts r

-- r slots are just the row's own work and what the rows above take out of them
abbrev pub Settles : List Timing → ℕ → ℕ → Type 0
Settles above work r = r ≡ work + demand above r

-- the least number up to n that passes a test
abbrev pub least : (ℕ → Bool) → ℕ → Option ℕ
least test zero = if test zero then Some zero else None
least test (suc n) = option_or (least test n) (if test (suc n) then Some (suc n) else None)

-- the least r that settles, if twice that is at most the row's validity
abbrev pub response_time : List Timing → ℕ → ℕ → Option ℕ
response_time above work validity = least (λ r. nat_eq r (work + demand above r)) (validity / 2)

-- d is the least of all numbers that settle, and twice d is at most the validity
pub record IsResponseTime (above : List Timing) (work validity d : ℕ) : Type 0 where
  pub settles : Settles above work d
  pub first : (r : ℕ) → Settles above work r → d ≤ r
  pub half : 2 * d ≤ validity

-- there is no such d: whatever settles, twice that exceeds the validity
abbrev pub NoResponseTime : List Timing → ℕ → ℕ → Type 0
NoResponseTime above work validity = (r : ℕ) → Settles above work r → validity < 2 * r
