-- What a search from a state finds.
use Rattle.std.specs.Prelude.{◌≡◌, ℕ, ◌<◌, ◌≤◌, Bool, true, Some, None, Option, Ok, Err, Result}
use Rattle.repeat.specs.Marks.{after, mark_of}
use Rattle.repeat.specs.declared.found.NoRepeat.{NoRepeat}
use Rattle.repeat.specs.declared.found.NoRepeat.TheVariants.{Fault, Nowhere}
use Rattle.repeat.specs.declared.found.Repeat.{Repeat}

-- what a kind of stepping thing means, over the states in which its things stand
pub record Stepping (S F : Type 0) : Type 0 where
  -- the fault that a step from a state meets, if any
  pub fault : S → Option F
  -- where a step leads from a state, unless it meets a fault
  pub next : S → S
  -- where a step that meets a fault stops
  pub stopped : S → S
  -- what a comparison of two states says: always the same
  pub alike : S → S → Bool

-- a yes means the same faults, or none, ever after
abbrev pub AlikeLasts : {S F : Type 0} → Stepping S F → Type 0
AlikeLasts {S} steps =
    (s t : S) → steps.alike s t ≡ true → (n : ℕ)
    → steps.fault (after steps.next n s) ≡ steps.fault (after steps.next n t)

-- steps from state s
module _ {S F : Type 0} (steps : Stepping S F) (s : S) where
  -- the first n steps meet no fault
  abbrev pub NoFaultBefore : ℕ → Type 0
  NoFaultBefore n = (u : ℕ) → u < n → steps.fault (after steps.next u s) ≡ None

  -- the state at instant t compares yes with the state at t's mark
  abbrev pub Repeats : ℕ → Type 0
  Repeats t = steps.alike (after steps.next t s) (after steps.next (mark_of t) s) ≡ true

  -- no instant from 1 to n repeats
  abbrev pub NoRepeatUpTo : ℕ → Type 0
  NoRepeatUpTo n = (t : ℕ) → 0 < t → t ≤ n → ¬ Repeats t

  -- a search up to a limit
  module _ (limit : ℕ) where
    -- the first instant that repeats, and its mark
    pub record RepeatFound (mark instant : ℕ) : Type 0 where
      pub from_one : 0 < instant
      pub within : instant ≤ limit
      pub mark_is : mark ≡ mark_of instant
      pub below : mark < instant
      pub repeats : Repeats instant
      pub faultless : NoFaultBefore instant
      pub first : (t : ℕ) → 0 < t → t < instant → ¬ Repeats t

    -- the first fault, before which nothing repeats
    pub record FaultFound (slot : ℕ) (met : F) : Type 0 where
      pub within : slot < limit
      pub meets : steps.fault (after steps.next slot s) ≡ Some met
      pub faultless : NoFaultBefore slot
      pub unrepeated : NoRepeatUpTo slot

    -- neither a fault nor a repeat up to the limit
    pub record NowhereFound : Type 0 where
      pub faultless : NoFaultBefore limit
      pub unrepeated : NoRepeatUpTo limit

    -- the answer of a search
    abbrev pub Finds : Result Repeat (NoRepeat F) → Type 0
    Finds (Ok found) = RepeatFound found.mark found.instant
    Finds (Err (Fault slot met)) = FaultFound slot met
    Finds (Err Nowhere) = NowhereFound
