-- A search has one answer only.
use Rattle.std.proofs.Common.{◌≡◌, ℕ, Ok, Err, Result, sym, refl, ap, ◌∙◌, inl, inr}
use Rattle.std.proofs.lemmas.Bool.{cases_lt, cases_order}
use Rattle.repeat.specs.Marks.{mark_of}
use Rattle.repeat.specs.Finds.{FaultFound, Finds, NowhereFound, RepeatFound, Stepping}
use Rattle.repeat.specs.declared.found.NoRepeat.{NoRepeat}
use Rattle.repeat.specs.declared.found.NoRepeat.TheVariants.{Fault, Nowhere}
use Rattle.repeat.specs.declared.found.Repeat.{Repeat}

module _ {S F : Type 0} (steps : Stepping S F) (s : S) (limit : ℕ) where
  -- a search finds one repeat only
  two_repeats : (m t n u : ℕ) → RepeatFound steps s limit m t → RepeatFound steps s limit n u → ◌≡◌ {A = Repeat} (record { mark = m; instant = t }) (record { mark = n; instant = u })
  two_repeats m t n u x y =
      elim (cases_order t u) [
        | inl same ↦ let marks : m ≡ n = x.mark_is ∙ ap mark_of same ∙ sym y.mark_is in cc
        | inr (inl less) ↦ absurd (y.first t x.from_one less x.repeats)
        | inr (inr more) ↦ absurd (x.first u y.from_one more y.repeats)
      ]

  -- a search that finds a repeat finds no fault
  repeat_fault : (m t u : ℕ) (f : F) → RepeatFound steps s limit m t → FaultFound steps s limit u f → ⊥
  repeat_fault m t u f x y =
      elim (cases_lt u t) [
        | inl less ↦ let none = x.faultless u less in let some = y.meets in cc
        | inr more ↦ y.unrepeated t x.from_one more x.repeats
      ]

  -- and does not find nothing
  repeat_nowhere : (m t : ℕ) → RepeatFound steps s limit m t → NowhereFound steps s limit → ⊥
  repeat_nowhere m t x y = y.unrepeated t x.from_one x.within x.repeats

  -- a search finds one fault only
  two_faults : (t u : ℕ) (f g : F) → FaultFound steps s limit t f → FaultFound steps s limit u g → Fault t f ≡ Fault u g
  two_faults t u f g x y =
      elim (cases_order t u) [
        | inl same ↦ let met = x.meets in let met' = y.meets in cc
        | inr (inl less) ↦ let none = y.faultless t less in let some = x.meets in cc
        | inr (inr more) ↦ let none = x.faultless u more in let some = y.meets in cc
      ]

  -- a search that finds a fault does not find nothing
  fault_nowhere : (t : ℕ) (f : F) → FaultFound steps s limit t f → NowhereFound steps s limit → ⊥
  fault_nowhere t f x y = let none = y.faultless t x.within in let some = x.meets in cc

  -- so it has one answer only
  pub only : (x y : Result Repeat (NoRepeat F)) → Finds steps s limit x → Finds steps s limit y → x ≡ y
  only (Ok r) (Ok q) x y = ap Ok (two_repeats r.mark r.instant q.mark q.instant x y)
  only (Ok r) (Err (Fault u f)) x y = absurd (repeat_fault r.mark r.instant u f x y)
  only (Ok r) (Err Nowhere) x y = absurd (repeat_nowhere r.mark r.instant x y)
  only (Err (Fault t f)) (Ok q) x y = absurd (repeat_fault q.mark q.instant t f y x)
  only (Err (Fault t f)) (Err (Fault u g)) x y = ap Err (two_faults t u f g x y)
  only (Err (Fault t f)) (Err Nowhere) x y = absurd (fault_nowhere t f x y)
  only (Err Nowhere) (Ok q) x y = absurd (repeat_nowhere q.mark q.instant y x)
  only (Err Nowhere) (Err (Fault u g)) x y = absurd (fault_nowhere u g y x)
  only (Err Nowhere) (Err Nowhere) x y = refl
