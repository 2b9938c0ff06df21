-- The lowest row with work left, and what a run leaves of each row.
use Rattle.std.proofs.Common.{◌≡◌, ℕ, zero, suc, ◌+◌, ◌<◌, ◌≤◌, false, cond, eqb, ltb, ◌⊎◌, List, [], ◌∷◌, length, get_or, refl, inl, inr, arith}
use Rattle.std.proofs.lemmas.Bool.{cases_Bool, ltb-true, ltb-false}
use Rattle.std.proofs.lemmas.Bool.Decides.{nat_tests}
use Rattle.periodic.specs.declared.phase.Phase.{Phase}
use Rattle.periodic.specs.Phases.{blank_phase, lowest, number_below, run_lowest, worked}

not_first : (n : ℕ) → eqb (number_below n) (0 + 1) ≡ false
not_first zero = refl
not_first (suc n) = grind (arith, nat_tests)

later : (n k : ℕ) → eqb (number_below n) (suc k + 1) ≡ eqb n (k + 1)
later zero k = grind (arith, nat_tests)
later (suc n) k = grind (arith, nat_tests)

-- a run takes a slot of work off the lowest row with work left, and leaves the others
pub run_at : (rs : List Phase) (k : ℕ) → get_or (run_lowest rs) k blank_phase ≡ cond (eqb (lowest rs) (k + 1)) (worked (get_or rs k blank_phase)) (get_or rs k blank_phase)
run_at [] k = let e : eqb 0 (k + 1) ≡ false = grind (arith, nat_tests) in rw e
run_at (r ∷ rs) zero = elim (cases_Bool (ltb 0 r.left)) [ inl t ↦ rw t | inr f ↦ rw (f, not_first (lowest rs)) ]
run_at (r ∷ rs) (suc k) =
    elim (cases_Bool (ltb 0 r.left)) [
      | inl t ↦ let e : eqb 1 (suc k + 1) ≡ false = grind (arith, nat_tests) in rw (t, e)
      | inr f ↦ rw (f, later (lowest rs) k) (run_at rs k)
    ]

-- the lowest row with work left is the first, or it is the lowest of the others, or there is none
front : (r : Phase) (rs : List Phase) → ((0 < r.left) × (lowest (r ∷ rs) ≡ 1)) ⊎ ((r.left ≡ 0) × (lowest (r ∷ rs) ≡ number_below (lowest rs)))
front r rs = elim (cases_Bool (ltb 0 r.left)) [ inl t ↦ inl (ltb-true 0 r.left t, rw t) | inr f ↦ inr (omega (arith, ltb-false 0 r.left f), rw f) ]

next : (n : ℕ) → ((n ≡ 0) × (number_below n ≡ 0)) ⊎ ((0 < n) × (number_below n ≡ n + 1))
next zero = inl (refl, refl)
next (suc n) = inr (omega arith, omega arith)

-- the row that runs has work left
pub lowest_works : (rs : List Phase) (k : ℕ) → lowest rs ≡ k + 1 → 0 < (get_or rs k blank_phase).left
lowest_works [] k e = absurd (omega arith)
lowest_works (r ∷ rs) zero e =
    elim (front r rs) [ inl p ↦ p.0 | inr q ↦ absurd (elim (next (lowest rs)) [ inl z ↦ omega arith | inr s ↦ omega arith ]) ]
lowest_works (r ∷ rs) (suc k) e =
    elim (front r rs) [ inl p ↦ absurd (omega arith) | inr q ↦ elim (next (lowest rs)) [ inl z ↦ absurd (omega arith) | inr s ↦ lowest_works rs k (omega arith) ] ]

-- no row below it has
pub lowest_first : (rs : List Phase) (k : ℕ) → k + 1 < lowest rs → (get_or rs k blank_phase).left ≡ 0
lowest_first [] k h = absurd (omega arith)
lowest_first (r ∷ rs) zero h = elim (front r rs) [ inl p ↦ absurd (omega arith) | inr q ↦ q.0 ]
lowest_first (r ∷ rs) (suc k) h =
    elim (front r rs) [ inl p ↦ absurd (omega arith) | inr q ↦ elim (next (lowest rs)) [ inl z ↦ absurd (omega arith) | inr s ↦ lowest_first rs k (omega arith) ] ]

-- where no row runs, none has work left
pub lowest_idles : (rs : List Phase) (k : ℕ) → lowest rs ≡ 0 → (get_or rs k blank_phase).left ≡ 0
lowest_idles [] k e = refl
lowest_idles (r ∷ rs) zero e = elim (front r rs) [ inl p ↦ absurd (omega arith) | inr q ↦ q.0 ]
lowest_idles (r ∷ rs) (suc k) e =
    elim (front r rs) [ inl p ↦ absurd (omega arith) | inr q ↦ elim (next (lowest rs)) [ inl z ↦ lowest_idles rs k z.0 | inr s ↦ absurd (omega arith) ] ]

pub lowest_within : (rs : List Phase) → lowest rs ≤ length rs
lowest_within [] = omega arith
lowest_within (r ∷ rs) =
    let h = lowest_within rs in
    elim (front r rs) [ inl p ↦ omega arith | inr q ↦ elim (next (lowest rs)) [ inl z ↦ omega arith | inr s ↦ omega arith ] ]
