-- One step of a search: a step of the stepping thing, the comparison with the mark, and the mark
-- renewed.
use Rattle.std.specs.Prelude.{◌≡◌, ℕ, ◌+◌, true, false, Some, None, Option, Ok, Err, Result, if◌then◌else◌}
use Rattle.repeat.specs.Finds.{Stepping}
use Rattle.repeat.specs.Marks.{is_next_mark, next_mark}
use Rattle.repeat.specs.declared.found.NoRepeat.{NoRepeat}
use Rattle.repeat.specs.declared.found.NoRepeat.TheVariants.{Fault, Nowhere}
use Rattle.repeat.specs.declared.found.Repeat.{Repeat}
use Rattle.repeat.specs.declared.search.Search.{Search}

-- a search of stepping things, with their states in their place
abbrev pub states_of : {T S : Type 0} → (T → S) → Search T → Search S
states_of state x = record { here = state x.here; mark = x.mark; kept = state x.kept }

-- a search that begins at a state: instant 0 is its first mark
abbrev pub search_from : {S : Type 0} → S → Search S
search_from s = record { here = s; mark = 0; kept = s }

-- a search that has taken the present instant for its mark, if it is the next one
abbrev pub after_renewal : {S : Type 0} → ℕ → Search S → Search S
after_renewal instant x =
    record x {
      mark = next_mark x.mark instant;
      kept = if is_next_mark x.mark instant then x.here else x.kept;
    }

module _ {S F : Type 0} (steps : Stepping S F) (slot : ℕ) (x : Search S) where
  -- where the step of a slot leads a search that goes on
  abbrev pub after_step : Search S
  after_step = after_renewal (slot + 1) (record x { here = steps.next x.here })

  -- how the step of a slot ends: with a repeat, with none yet, or with a fault
  abbrev pub StepEnds : Result (Option Repeat) (NoRepeat F) → Type 0
  StepEnds (Ok (Some found)) =
      (steps.fault x.here ≡ None)
      × (steps.alike (steps.next x.here) x.kept ≡ true)
      × (found ≡ record { mark = x.mark; instant = slot + 1 })
  StepEnds (Ok None) =
      (steps.fault x.here ≡ None) × (steps.alike (steps.next x.here) x.kept ≡ false)
  StepEnds (Err (Fault t met)) = (steps.fault x.here ≡ Some met) × (t ≡ slot)
  StepEnds (Err Nowhere) = ⊥
