-- What a refusal tells of a fault: its number, the slot and the row.
use Rattle.std.specs.Prelude.{ℕ, [], ◌∷◌}
use Rattle.readings.specs.Refusals.{Content}
use Rattle.books.specs.declared.fault.Fault.{Fault}
use Rattle.books.specs.declared.fault.Fault.TheVariants.{JobRule, Stale}

-- number and values of the refusal of a fault in a slot: 11 for the job rule, 12 for a stale row
abbrev pub fault_content : Fault → ℕ → Content
fault_content (JobRule row) slot = (11, slot ∷ row ∷ [])
fault_content (Stale row) slot = (12, slot ∷ row ∷ [])
