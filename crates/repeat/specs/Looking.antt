-- The search as a function that can be computed.
use Rattle.std.specs.Prelude.{ℕ, zero, suc, ◌+◌, Bool, true, false, Some, None, Ok, Err, Option, Result}
use Rattle.repeat.specs.Finds.{Stepping}
use Rattle.repeat.specs.SearchStep.{after_step}
use Rattle.repeat.specs.declared.found.NoRepeat.{NoRepeat}
use Rattle.repeat.specs.declared.found.NoRepeat.TheVariants.{Fault, Nowhere}
use Rattle.repeat.specs.declared.found.Repeat.{Repeat}
use Rattle.repeat.specs.declared.search.Search.{Search}

-- how a search step ends, by its fault and its comparison
abbrev pub step_end : {F : Type 0} → Option F → Bool → (slot mark : ℕ)
    → Result (Option Repeat) (NoRepeat F)
step_end (Some met) again slot mark = Err (Fault slot met)
step_end None true slot mark = Ok (Some (record { mark = mark; instant = slot + 1 }))
step_end None false slot mark = Ok None

module _ {S F : Type 0} (steps : Stepping S F) where
  -- the search from a slot on, with so many slots left
  unfoldable pub look : (left slot : ℕ) → Search S → Result Repeat (NoRepeat F)
  look zero slot x = Err Nowhere
  look (suc left) slot x =
      let to = after_step steps slot x in
      elim (step_end (steps.fault x.here) (steps.alike to.here x.kept) slot x.mark) [
        | Ok (Some found) ↦ Ok found
        | Ok None ↦ look left (slot + 1) to
        | Err end ↦ Err end
      ]
