-- The least number that passes a test.
use Rattle.std.proofs.Common.{◌≡◌, ℕ, zero, suc, ◌<◌, ◌≤◌, Bool, true, false, cond, Some, None, Option, refl, ap, ◌∙◌, inl, inr, arith, MatchOption}
use Rattle.std.proofs.lemmas.Bool.{cases_order, cases_Bool, both_ways, cond-true, cond-false}
use Rattle.std.specs.Option.{option_or}
use Rattle.planner.specs.Response.{least}

-- what is found passes, is within the bound, and nothing below it passes; where nothing is found,
-- nothing within the bound passes
abbrev pub Tells : (ℕ → Bool) → ℕ → Option ℕ → Type 0
Tells test n o = MatchOption o ((j : ℕ) → j ≤ n → test j ≡ false) (λ d. (test d ≡ true) × (d ≤ n) × ((j : ℕ) → j < d → test j ≡ false))

tells_next : (test : ℕ → Bool) (n : ℕ) (o : Option ℕ) → Tells test n o → Tells test (suc n) (option_or o (cond (test (suc n)) (Some (suc n)) None))
tells_next test n (Some d) h = (h.0, omega arith, h.2)
tells_next test n None h =
    elim (cases_Bool (test (suc n))) [
      | inl passes ↦ rw (cond-true (test (suc n)) (Some (suc n)) None passes) (passes, omega arith, λ j l. h j (omega arith))
      | inr fails ↦
          rw (cond-false (test (suc n)) (Some (suc n)) None fails)
          (λ j l. elim (cases_order j (suc n)) [
            | inl same ↦ ap test same ∙ fails
            | inr (inl less) ↦ h j (omega arith)
            | inr (inr more) ↦ absurd (omega arith)
          ])
    ]

pub least_tells : (test : ℕ → Bool) (n : ℕ) → Tells test n (least test n)
least_tells test zero =
    elim (cases_Bool (test zero)) [
      | inl passes ↦ rw (cond-true (test zero) (Some zero) None passes) (passes, omega arith, λ j l. absurd (omega arith))
      | inr fails ↦ rw (cond-false (test zero) (Some zero) None fails) (λ j l. let same : j ≡ zero = omega arith in ap test same ∙ fails)
    ]
least_tells test (suc n) = tells_next test n (least test n) (least_tells test n)

-- and only one answer tells so
pub only_none : (test : ℕ → Bool) (n : ℕ) (o : Option ℕ) → Tells test n o → ((j : ℕ) → j ≤ n → test j ≡ false) → o ≡ None
only_none test n None h none = refl
only_none test n (Some d) h none = absurd (both_ways (test d) (none d h.1) h.0)

pub only_some : (test : ℕ → Bool) (n d : ℕ) (o : Option ℕ) → Tells test n o → d ≤ n → test d ≡ true → ((j : ℕ) → j < d → test j ≡ false) → o ≡ Some d
only_some test n d None h l e before = absurd (both_ways (test d) (h d l) e)
only_some test n d (Some b) h l e before =
    elim (cases_order b d) [
      | inl same ↦ ap Some same
      | inr (inl less) ↦ absurd (both_ways (test b) (before b less) h.0)
      | inr (inr more) ↦ absurd (both_ways (test d) (h.2 d more) e)
    ]
