-- What the rules give for each example.
use Rattle.std.specs.Prelude.{◌≡◌, ℕ, Result}
use Rattle.readings.specs.declared.refusal.Refusal.{Refusal}
use Rattle.planner.specs.Periods.{half_half}
use Rattle.periodic.specs.Meanings.{periodic_meaning}
use Rattle.periodic.specs.Phases.{periodic_course}
use Rattle.examples.specs.Endings.{CrossingGives, FinishesGive, PeriodsGive, ResponsesGive, SlotGives, TooLongGives, WalkGives}
use Rattle.examples.specs.Kinds.{inactive_meaning, never_alike_meaning}
use Rattle.examples.specs.Lists.{MoreLessGives, first_phases, readings_x, readings_y, readings_z}
use Rattle.examples.specs.declared.example.Example.{Example}
use Rattle.examples.specs.declared.example.Example.TheVariants.{HalfHalfPeriodsOfX, HalfHalfOfX, ResponsesOfX, PeriodsOfX, MoreLessOfX, FinishesOfX, PeriodsOfY, MoreLessOfY, RowThreeOfY, MoreLessOfZ, InactiveOverX, NeverAlikeOverX, CrossingAtOne, CrossingAtSix, CrossingAtSeven}
use Rattle.examples.specs.declared.ending.Ending.{Ending}

-- X crosses to Y at an instant, both by More-Less
abbrev pub XToY : ℕ → Result Ending Refusal → Type 0
XToY n e =
    MoreLessGives readings_x (λ ts. MoreLessGives readings_y (λ us.
    CrossingGives (periodic_course (first_phases ts)) readings_x n
    (periodic_course (first_phases us)) readings_y e))

-- the rules give this ending for an example
unfoldable pub RulesGive : Example → Result Ending Refusal → Type 0
RulesGive HalfHalfPeriodsOfX e = PeriodsGive (half_half readings_x) e
RulesGive HalfHalfOfX e =
    WalkGives periodic_meaning (first_phases (half_half readings_x)) readings_x e
RulesGive ResponsesOfX e = MoreLessGives readings_x (λ ts. ResponsesGive readings_x ts e)
RulesGive PeriodsOfX e = MoreLessGives readings_x (λ ts. PeriodsGive ts e)
RulesGive MoreLessOfX e =
    MoreLessGives readings_x (λ ts. WalkGives periodic_meaning (first_phases ts) readings_x e)
RulesGive FinishesOfX e =
    MoreLessGives readings_x (λ ts. FinishesGive (periodic_course (first_phases ts)) readings_x e)
RulesGive PeriodsOfY e = MoreLessGives readings_y (λ ts. PeriodsGive ts e)
RulesGive MoreLessOfY e =
    MoreLessGives readings_y (λ ts. WalkGives periodic_meaning (first_phases ts) readings_y e)
RulesGive RowThreeOfY e =
    MoreLessGives readings_y (λ ts.
    SlotGives (periodic_course (first_phases ts)) readings_y 11 2 e)
RulesGive MoreLessOfZ e = TooLongGives readings_z 1 7 e
RulesGive InactiveOverX e = WalkGives inactive_meaning tt readings_x e
RulesGive NeverAlikeOverX e =
    MoreLessGives readings_x (λ ts.
    WalkGives (never_alike_meaning periodic_meaning) (first_phases ts) readings_x e)
RulesGive CrossingAtOne e = XToY 1 e
RulesGive CrossingAtSix e = XToY 6 e
RulesGive CrossingAtSeven e = XToY 7 e

-- and no other
pub record RulesGiveOnly (a : Example) (r : Result Ending Refusal) : Type 0 where
  pub this : RulesGive a r
  pub only : (e : Result Ending Refusal) → RulesGive a e → e ≡ r
