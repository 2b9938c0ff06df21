-- The search for a response time: from below, by what the slots so far ask for.
use Rattle.std.proofs.Common.{◌≡◌, ℕ, ◌+◌, ◌/◌, ◌<◌, ◌≤◌, Bool, eqb, List, Some, None, Option, sym, inl, inr, arith, MatchOption}
use Rattle.std.proofs.lemmas.Option.{MatchOption-at_some}
use Rattle.std.proofs.lemmas.Bool.{cases_lt, eq-eqb, eqb-false, eqb-true, ne_eqb}
use Rattle.planner.specs.Response.{NoResponseTime, IsResponseTime, Settles, demand, response_time}
use Rattle.planner.specs.Timing.{Positive}
use Rattle.planner.specs.declared.timing.Timing.{Timing}
use Rattle.planner.proofs.Demand.{demand_mono}
use Rattle.planner.proofs.Least.{Tells, least_tells, only_none, only_some}

module _ (above : List Timing) (work : ℕ) (positive : Positive above) where
  -- nothing below what the slots so far ask for settles
  pub none_below : (s : ℕ) → ((j : ℕ) → j < s → Settles above work j → ⊥) → (j : ℕ) → j < work + demand above s → Settles above work j → ⊥
  none_below s before j l e =
      elim (cases_lt j s) [
        | inl less ↦ before j less e
        | inr more ↦ (let grows = demand_mono above s j positive more in omega arith)
      ]

  -- and they go on asking for no less
  pub rises : (s : ℕ) → s ≤ work + demand above s → work + demand above s ≤ work + demand above (work + demand above s)
  rises s h = let grows = demand_mono above s (work + demand above s) positive h in omega arith

module _ (above : List Timing) (work validity : ℕ) where
  settles : ℕ → Bool
  settles r = eqb r (work + demand above r)

  -- the first number that settles, within half of the validity
  pub settled : (s : ℕ) → ((j : ℕ) → j < s → Settles above work j → ⊥) → Settles above work s → s ≤ validity / 2 → Some s ≡ response_time above work validity
  unfolding settles
  settled s before e l =
      sym (only_some settles (validity / 2) s (response_time above work validity) (least_tells settles (validity / 2)) l (eq-eqb _ _ e) (λ j h. ne_eqb _ _ (before j h)))

  -- nothing within half of the validity settles
  pub unsettled : (s : ℕ) → ((j : ℕ) → j < s → Settles above work j → ⊥) → validity / 2 < s → None ≡ response_time above work validity
  unfolding settles
  unsettled s before l =
      sym (only_none settles (validity / 2) (response_time above work validity) (least_tells settles (validity / 2)) (λ j h. ne_eqb _ _ (before j (omega arith))))

  -- a response time is the least of all numbers that settle, and without one none within half of the validity does
  pub response_tells : MatchOption (response_time above work validity) (NoResponseTime above work validity) (IsResponseTime above work validity)
  unfolding settles
  response_tells = go (response_time above work validity) (least_tells settles (validity / 2))
    where
      go : (o : Option ℕ) → Tells settles (validity / 2) o → MatchOption o (NoResponseTime above work validity) (IsResponseTime above work validity)
      go (Some d) h = record {
        settles = eqb-true _ _ h.0;
        first = λ r e. elim (cases_lt r d) [ inl less ↦ absurd (eqb-false _ _ (h.2 r less) e) | inr more ↦ more ];
        half = omega arith;
      }
      go None h = λ r e. elim (cases_lt (validity / 2) r) [ inl large ↦ omega arith | inr small ↦ absurd (eqb-false _ _ (h r small) e) ]

  pub response_is : (d : ℕ) → response_time above work validity ≡ Some d → IsResponseTime above work validity d
  response_is d e = MatchOption-at_some (NoResponseTime above work validity) (IsResponseTime above work validity) d e response_tells
