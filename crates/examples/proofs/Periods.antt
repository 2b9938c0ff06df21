-- What the planners give in the examples, computed.
use Rattle.std.proofs.Common.{◌≡◌, ℕ, ◌+◌, ◌<◌, ◌≤◌, false, List, [], ◌∷◌, Err, nat_eq, refl, sym, ap, ◌∙◌, subst, inl, inr, arith, lit<}
use Rattle.std.proofs.lemmas.Bool.{both_ways, cases_lt, eq-eqb}
use Rattle.readings.specs.Refusals.{content}
use Rattle.readings.specs.declared.reading.Reading.{Reading}
use Rattle.readings.specs.declared.refusal.Refusal.{Refusal}
use Rattle.readings.specs.declared.refusal.Refusal.TheVariants.{Response}
use Rattle.planner.proofs.Planned.{planned}
use Rattle.planner.specs.Periods.{MoreLess, more_less}
use Rattle.planner.specs.Response.{IsResponseTime, Settles, demand}
use Rattle.planner.specs.declared.timing.Timing.{Timing}
use Rattle.examples.specs.Endings.{ResponseOf, TooLong}
use Rattle.examples.specs.Lists.{reading, readings_x, readings_z}
use Rattle.examples.specs.Rules.{RulesGive}
use Rattle.examples.specs.declared.example.Example.TheVariants.{MoreLessOfZ}
use Rattle.examples.proofs.Contents.{refusal_with, refusal_with-content}
use Rattle.examples.proofs.Gives.{each_below}
use Rattle.examples.proofs.Walked.{timing, timings_x}

-- where no number below d settles, whatever settles is at least d
least_from : (above : List Timing) (work d : ℕ)
    → ((k : ℕ) → k < d → nat_eq k (work + demand above k) ≡ false)
    → (r : ℕ) → Settles above work r → d ≤ r
least_from above work d none r e =
    elim (cases_lt r d) [
      | inl less ↦ absurd (both_ways _ (none r less) (eq-eqb r _ e))
      | inr more ↦ more
    ]

-- the law of More-Less gives the response times of X
law_x : MoreLess readings_x timings_x
law_x = planned readings_x

pub response_first : ResponseOf readings_x timings_x 0 1
response_first = (law_x.rows 0 (lit< tt)).response

pub response_second : ResponseOf readings_x timings_x 1 3
response_second = (law_x.rows 1 (lit< tt)).response

pub response_third : ResponseOf readings_x timings_x 2 6
response_third = (law_x.rows 2 (lit< tt)).response

-- a row has one response time
pub response_only : (above : List Timing) (work validity d e : ℕ)
    → IsResponseTime above work validity d → IsResponseTime above work validity e → d ≡ e
response_only above work validity d e v w =
    let a = v.first e w.settles in
    let b = w.first d v.settles in
    omega arith

-- the first row of Z has the response time 2, which leaves a period of 4
abbrev above_z : List Timing
above_z = timing 2 4 ∷ []

-- and the second one takes 7 of its 13 slots
pub too_long : TooLong readings_z 1 7 (Response 2)
too_long =
    record {
      refused = refl;
      above = above_z;
      planned_above = planned (reading 7 2 6 ∷ []);
      settles = refl;
      least =
          least_from above_z 3 7
          (each_below _ 7 (((((((tt, refl), refl), refl), refl), refl), refl), refl));
      late = omega arith;
    }

-- no other refusal has the content that the one of Z has
pub refusal_z : (r : Refusal) → more_less readings_z ≡ Err (content r) → r ≡ Response 2
refusal_z r refused =
    let same : Err (content r) ≡ more_less readings_z = sym refused in
    let tells : content r ≡ content (Response 2) = cc in
    sym (refusal_with-content r) ∙ ap refusal_with tells

-- so that More-Less, which refuses Z, does it with that one
pub z_refused : (ds : List Reading) (r : Refusal) → ds ≡ readings_z → more_less ds ≡ Err (content r)
    → RulesGive MoreLessOfZ (Err r)
unfolding RulesGive
z_refused ds r e refused =
    subst (TooLong readings_z 1 7) (sym (refusal_z r (ap more_less (sym e) ∙ refused))) too_long
