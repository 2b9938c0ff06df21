-- What the code keeps of a plan, and why it makes no show file.
use Rattle.std.specs.Prelude.{ℕ, List}
use Rattle.readings.specs.declared.refusal.Refusal.{Refusal}
use Rattle.showtext.specs.Scripted.{Ended}
use Rattle.showtext.specs.declared.plan.Plan.{Plan}
use Rattle.showtext.specs.declared.unmade.Unmade.{Unmade}
use Rattle.showtext.specs.declared.unmade.Unmade.TheVariants.{Refused, Memory}

-- a plan that has ended, with the pieces of the script that are left behind it
abbrev pub end_of : Plan → (left : List (List ℕ)) → Ended
end_of plan left = record { given = plan.given.items; slots = plan.slots; behind = left }

-- a fact about a refusal of the script
abbrev pub IfRefused : Unmade → (Refusal → Type 0) → Type 0
IfRefused (Refused refusal) P = P refusal
IfRefused (Memory e) P = Unit {0}
