-- The rules give one ending only for each example about strips.
use Rattle.std.proofs.Common.{◌≡◌, ℕ, zero, suc, ◌<◌, true, List, [], ◌∷◌, Ok, Err, Result, sym, refl, ap, ◌∙◌, subst, inl, inr, arith}
use Rattle.std.proofs.lemmas.Bool.{cases_eq, cases_order}
use Rattle.readings.specs.Refusals.{content}
use Rattle.readings.specs.declared.reading.Reading.{Reading}
use Rattle.readings.specs.declared.refusal.Refusal.{Refusal}
use Rattle.readings.specs.declared.refusal.Refusal.TheVariants.{NextJob, NoLoop, Stale}
use Rattle.policy.specs.Course.{Course, names}
use Rattle.books.specs.Ages.{Samples}
use Rattle.strip.specs.Meanings.{strip_meaning}
use Rattle.strip.specs.Strips.{Strip, laid_strip, start_of}
use Rattle.walk.specs.Walks.{granted, refused}
use Rattle.examples.specs.Lists.{readings_s, readings_t, readings_x, readings_z}
use Rattle.examples.specs.StripRules.{StripRulesGive, outside}
use Rattle.examples.specs.Strips.{LoopGives, SampleAt, SamplesGive, StripGives, samples_before}
use Rattle.examples.specs.declared.strip_example.StripExample.{StripExample}
use Rattle.examples.specs.declared.strip_example.StripExample.TheVariants.{LoopOfX, NoLoopOfX, LoopOfZ, NoLoopOfZ, LayingOfT, RowTwoOfX, RowThreeOfX, WalkOfX, WalkFromOutside}
use Rattle.examples.specs.declared.ending.Ending.{Ending}
use Rattle.examples.specs.declared.ending.Ending.TheVariants.{Granted, Loop, Slots}
use Rattle.examples.proofs.Contents.{refusal_with, refusal_with-content}
use Rattle.examples.proofs.Made.{made_x, made_z, not_made_t, not_made_x, not_made_z, outside_granted, outside_walks, played_x, samples_three, samples_two, strip_x, strip_x_walks, strip_z}
use Rattle.examples.proofs.Only.{walk_only}

-- the strip that is made is known
pub strip_known : (rs : List Reading) (n : ℕ) (t : Strip) → laid_strip rs n ≡ Ok t
    → (P : Strip → Type 0) → StripGives rs n P → P t
strip_known rs n t made P g =
    let this = g.1.0 in
    let same : g.0 ≡ t = cc in
    subst P same g.1.1

-- and it is not refused
pub made_or_not : (rs : List Reading) (n : ℕ) (t : Strip) (r : Refusal) → laid_strip rs n ≡ Ok t
    → laid_strip rs n ≡ Err (content r) → ⊥
made_or_not rs n t r made told =
    let both : Ok t ≡ Err (content r) = sym made ∙ told in
    let no : ◌≡◌ {A = ℕ} 0 1 = cc in
    absurd (omega arith)

-- so its loop is known
loop_only : (rs : List Reading) (n : ℕ) (t : Strip) → laid_strip rs n ≡ Ok t
    → (e : Result Ending Refusal) → LoopGives rs n e → e ≡ Ok (Loop t.first t.last)
loop_only rs n t made (Ok (Loop first last)) g =
    let ends = strip_known rs n t made (λ s. (s.first ≡ first) × (s.last ≡ last)) g in
    let a = ends.0 in
    let b = ends.1 in
    cc
loop_only rs n t made (Ok _) g = absurd g
loop_only rs n t made (Err r) g = absurd (made_or_not rs n t r made g)

-- where there is one, no strip is made
refusal_only : (rs : List Reading) (n : ℕ) (r : Refusal) → laid_strip rs n ≡ Err (content r)
    → (e : Result Ending Refusal) → LoopGives rs n e → e ≡ Err r
refusal_only rs n r told (Ok (Loop first last)) g = absurd (made_or_not rs n g.0 r g.1.0 told)
refusal_only rs n r told (Ok _) g = absurd g
refusal_only rs n r told (Err q) g =
    let same : content q ≡ content r = cc in
    ap Err (sym (refusal_with-content q) ∙ ap refusal_with same ∙ refusal_with-content r)

module _ (c : Course) (k : ℕ) where
  -- a slot that samples the row counts from the next one on
  counts : (m n : ℕ) → m < n → Samples c k m → samples_before c k m < samples_before c k n
  counts m zero less s = absurd (omega arith)
  counts m (suc n) less s =
      elim (cases_eq m n) [
        | inl same ↦
            let here : names (c n).0 k ≡ true = subst (λ (x : ℕ). Samples c k x) same s in
            rw (same, here) (omega arith)
        | inr other ↦ let before = counts m n (omega arith) s in omega arith
      ]

  -- so one slot at most has its number
  slot_only : (j m n : ℕ) → SampleAt c k j m → SampleAt c k j n → m ≡ n
  slot_only j m n v w =
      elim (cases_order m n) [
        | inl same ↦ same
        | inr (inl less) ↦ let l = counts m n less v.samples in absurd (omega (arith, v.before, w.before))
        | inr (inr more) ↦ let l = counts n m more w.samples in absurd (omega (arith, v.before, w.before))
      ]

  samples_only : (a b d e f : ℕ) → SamplesGive c k (Ok (Slots a b d e f))
      → (r : Result Ending Refusal) → SamplesGive c k r → r ≡ Ok (Slots a b d e f)
  samples_only a b d e f v (Ok (Slots first second third fourth fifth)) w =
      let p = slot_only 0 first a w.0 v.0 in
      let q = slot_only 1 second b w.1 v.1 in
      let r = slot_only 2 third d w.2 v.2 in
      let s = slot_only 3 fourth e w.3 v.3 in
      let t = slot_only 4 fifth f w.4 v.4 in
      cc
  samples_only a b d e f v _ w = absurd w

-- of X on 89 slots
pub known_x : (P : Strip → Type 0) → StripGives readings_x 89 P → P strip_x
known_x = strip_known readings_x 89 strip_x made_x

-- the one ending of each example
abbrev pub the_ending : StripExample → Result Ending Refusal
the_ending LoopOfX = Ok (Loop 63 78)
the_ending NoLoopOfX = Err NoLoop
the_ending LoopOfZ = Ok (Loop 15 22)
the_ending NoLoopOfZ = Err NoLoop
the_ending LayingOfT = Err (NextJob 3)
the_ending RowTwoOfX = Ok (Slots 0 7 14 22 30)
the_ending RowThreeOfX = Ok (Slots 0 18 35 51 67)
the_ending WalkOfX = Ok (Granted 63 16)
the_ending WalkFromOutside = Err (Stale 2 1)

-- the rules give it
given : (a : StripExample) → StripRulesGive a (the_ending a)
unfolding StripRulesGive
given LoopOfX = (strip_x, (made_x, (refl, refl)))
given NoLoopOfX = not_made_x
given LoopOfZ = (strip_z, (made_z, (refl, refl)))
given NoLoopOfZ = not_made_z
given LayingOfT = not_made_t
given RowTwoOfX = (strip_x, (made_x, samples_two))
given RowThreeOfX = (strip_x, (made_x, samples_three))
given WalkOfX = (strip_x, (made_x, strip_x_walks))
given WalkFromOutside = record { granted = outside_granted; walk = outside_walks }

-- and nothing else
pub ending_is : (a : StripExample) (e : Result Ending Refusal) → StripRulesGive a e
    → e ≡ the_ending a
unfolding StripRulesGive
ending_is LoopOfX e g = loop_only readings_x 89 strip_x made_x e g
ending_is NoLoopOfX e g = refusal_only readings_x 88 NoLoop not_made_x e g
ending_is LoopOfZ e g = loop_only readings_z 30 strip_z made_z e g
ending_is NoLoopOfZ e g = refusal_only readings_z 29 NoLoop not_made_z e g
ending_is LayingOfT e g = refusal_only readings_t 88 (NextJob 3) not_made_t e g
ending_is RowTwoOfX e g = samples_only played_x 1 0 7 14 22 30 samples_two e (known_x _ g)
ending_is RowThreeOfX e g = samples_only played_x 2 0 18 35 51 67 samples_three e (known_x _ g)
ending_is WalkOfX e g =
    walk_only strip_meaning (start_of strip_x) readings_x (granted 63 16) strip_x_walks e
    (known_x _ g)
ending_is WalkFromOutside e g =
    walk_only strip_meaning (start_of outside) readings_s (refused (12, 2 ∷ 1 ∷ []))
    outside_walks e g.walk

pub given_as : (a : StripExample) (r : Result Ending Refusal) → r ≡ the_ending a
    → StripRulesGive a r
given_as a r e = subst (StripRulesGive a) (sym e) (given a)

-- so that it is the only one
pub ruleset one_ending = (given_as, ending_is)
