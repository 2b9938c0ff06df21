use Rattle.std.proofs.Common.{false, refl, sym, ◌∙◌, arith}
use Rattle.std.proofs.lemmas.Bool.{both_ways}
use Rattle.walk.proofs.plan.all_in_time.Goals as goal

pub returns-then-not-is_in_time : goal.returns-then-not-is_in_time
returns-then-not-is_in_time c = (
  λ yes. absurd (both_ways false refl yes),
  λ all. sym c.if-not-is_in_time.true ∙ c.is_in_time.ensures.1 (all c.loop-k.k (omega arith)),
)
