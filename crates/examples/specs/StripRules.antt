-- What the rules give for each example about strips.
use Rattle.std.specs.Prelude.{◌≡◌, [], ◌∷◌, Result}
use Rattle.readings.specs.declared.refusal.Refusal.{Refusal}
use Rattle.policy.specs.Course.{Course}
use Rattle.strip.specs.Positions.{strip_course}
use Rattle.strip.specs.Strips.{Strip, start_of}
use Rattle.examples.specs.Lists.{readings_s, readings_t, readings_x, readings_z}
use Rattle.examples.specs.Strips.{LoopGives, OutsideGives, PlayerGives, SamplesGive, StripGives}
use Rattle.examples.specs.declared.ending.Ending.{Ending}
use Rattle.examples.specs.declared.strip_example.StripExample.{StripExample}
use Rattle.examples.specs.declared.strip_example.StripExample.TheVariants.{LoopOfX, NoLoopOfX, LoopOfZ, NoLoopOfZ, LayingOfT, RowTwoOfX, RowThreeOfX, WalkOfX, WalkFromOutside}

-- the course of a player of X, laid on 89 slots and closed
abbrev pub PlayedX : (Course → Type 0) → Type 0
PlayedX P = StripGives readings_x 89 (λ s. P (strip_course (start_of s)))

-- four slots for S, of which the first runs its row, with a loop of the others
abbrev pub outside : Strip
outside = record { rows = readings_s; slots = 1 ∷ 0 ∷ 0 ∷ 0 ∷ []; first = 1; last = 3 }

-- the rules give this ending for an example
unfoldable pub StripRulesGive : StripExample → Result Ending Refusal → Type 0
StripRulesGive LoopOfX e = LoopGives readings_x 89 e
StripRulesGive NoLoopOfX e = LoopGives readings_x 88 e
StripRulesGive LoopOfZ e = LoopGives readings_z 30 e
StripRulesGive NoLoopOfZ e = LoopGives readings_z 29 e
StripRulesGive LayingOfT e = LoopGives readings_t 88 e
StripRulesGive RowTwoOfX e = PlayedX (λ c. SamplesGive c 1 e)
StripRulesGive RowThreeOfX e = PlayedX (λ c. SamplesGive c 2 e)
StripRulesGive WalkOfX e = StripGives readings_x 89 (λ s. PlayerGives s e)
StripRulesGive WalkFromOutside e = OutsideGives outside e

-- and no other
pub record StripRulesGiveOnly (a : StripExample) (r : Result Ending Refusal) : Type 0 where
  pub this : StripRulesGive a r
  pub only : (e : Result Ending Refusal) → StripRulesGive a e → e ≡ r
