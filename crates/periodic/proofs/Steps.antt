-- A run keeps every row.
use Rattle.std.proofs.Common.{◌≡◌, suc, ltb, List, [], ◌∷◌, length, refl, ap, inl, inr}
use Rattle.std.proofs.lemmas.Bool.{cases_Bool}
use Rattle.periodic.specs.declared.phase.Phase.{Phase}
use Rattle.periodic.specs.Phases.{run_lowest}

-- a run keeps every row
pub length_run : (rs : List Phase) → length (run_lowest rs) ≡ length rs
length_run [] = refl
length_run (r ∷ rs) = elim (cases_Bool (ltb 0 r.left)) [ inl t ↦ rw t | inr f ↦ rw f (ap suc (length_run rs)) ]
