-- What is computed is what a search has to find.
use Rattle.std.proofs.Common.{◌≡◌, ℕ, zero, suc, ◌+◌, Bool, true, false, Some, None, Ok, Err, Option, Result, refl, arith}
use Rattle.repeat.proofs.UnderWay.{UnderWay, begins, fault_found, nowhere, onward, repeat_found}
use Rattle.repeat.specs.Finds.{Finds, Stepping}
use Rattle.repeat.specs.Looking.{look, step_end}
use Rattle.repeat.specs.SearchStep.{StepEnds, after_step, search_from}
use Rattle.repeat.specs.declared.found.NoRepeat.{NoRepeat}
use Rattle.repeat.specs.declared.found.NoRepeat.TheVariants.{Fault, Nowhere}
use Rattle.repeat.specs.declared.found.Repeat.{Repeat}
use Rattle.repeat.specs.declared.search.Search.{Search}

module _ {S F : Type 0} (steps : Stepping S F) where
  -- and so a search step ends
  step_ends : (slot : ℕ) (x : Search S) (met : Option F) (again : Bool) → steps.fault x.here ≡ met → steps.alike (steps.next x.here) x.kept ≡ again
      → StepEnds steps slot x (step_end met again slot x.mark)
  step_ends slot x (Some f) again e same = (e, refl)
  step_ends slot x None true e same = (e, same, refl)
  step_ends slot x None false e same = (e, same)

  module _ (s : S) (limit : ℕ) where
    -- from any slot of a search under way
    look_goes : (left slot : ℕ) (x : Search S) → slot + left ≡ limit → UnderWay steps s slot x → Finds steps s limit (look steps left slot x)
    unfolding look
    look_goes zero slot x e w = nowhere steps s slot x w limit (omega arith)
    look_goes (suc left) slot x e w =
        let to : Search S = after_step steps slot x in
        (elim (step_end (steps.fault x.here) (steps.alike to.here x.kept) slot x.mark) as (λ (r : Result (Option Repeat) (NoRepeat F)). StepEnds steps slot x r → Finds steps s limit (elim r [
          | Ok (Some found) ↦ Ok found
          | Ok None ↦ look steps left (slot + 1) to
          | Err end ↦ Err end
        ])) [
          | Ok (Some found) ↦ λ t. repeat_found steps s slot x w limit found (omega arith) t
          | Ok None ↦ λ t. look_goes left (slot + 1) to (omega arith) (onward steps s slot x w to t refl)
          | Err end ↦ λ t. fault_found steps s slot x w limit end (omega arith) t
        ]) (step_ends slot x (steps.fault x.here) (steps.alike to.here x.kept) refl refl)

    -- from the start
    pub look_finds : Finds steps s limit (look steps limit 0 (search_from s))
    look_finds = look_goes limit 0 (search_from s) (omega arith) (begins steps s)
