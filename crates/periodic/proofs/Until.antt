-- The slots until a row's next sample, in slot n: with them, the slots make whole periods.
use Rattle.std.proofs.Common.{◌≡◌, ℕ, suc, ◌+◌, ◌-◌, ◌%◌, ◌<◌, ◌≤◌, cond, eqb, sym, ap, ◌∙◌, inl, inr, mod-eq_of_lt, arith}
use native.Mathlib.Nat.{add-mod, add-mod_right, zero-mod}
use Rattle.std.proofs.lemmas.Bool.{cases_eq, eq-eqb, ne_eqb}

pub record SlotsUntil (period n until : ℕ) : Type 0 where
  pub soon : until < period
  pub whole : (until + n) % period ≡ 0

pub until_start : (period : ℕ) → 1 ≤ period → SlotsUntil period 0 0
until_start period h = record { soon = omega arith; whole = zero-mod period }

-- a slot later
pub until_more : (period n until : ℕ) → SlotsUntil period n until → SlotsUntil period (suc n) (cond (eqb until 0) (period - 1) (until - 1))
until_more period n until p =
    elim (cases_eq until 0) [
      | inl e ↦
          let a : (period - 1) + suc n ≡ n + period = omega arith in
          let b : until + n ≡ n = omega arith in
          rw (eq-eqb until 0 e) (record { soon = omega arith; whole = rw a (add-mod_right n period ∙ ap (λ (m : ℕ). m % period) (sym b) ∙ p.whole) })
      | inr f ↦
          let a : (until - 1) + suc n ≡ until + n = omega arith in
          rw (ne_eqb until 0 f) (record { soon = omega arith; whole = rw a p.whole })
    ]

-- a sample is due in the slots that make whole periods
pub until_due : (period n until : ℕ) → SlotsUntil period n until → eqb until 0 ≡ eqb (n % period) 0
until_due period n until p =
    elim (cases_eq until 0) [
      | inl e ↦
          let b : until + n ≡ n = omega arith in
          let z : n % period ≡ 0 = ap (λ (m : ℕ). m % period) (sym b) ∙ p.whole in
          rw (e, z)
      | inr f ↦
          let g : (n % period ≡ 0) → ⊥ = λ z.
          let a = add-mod until n period in
          let b : until % period + n % period ≡ until = omega (arith, mod-eq_of_lt p.soon) in
          let d : (until % period + n % period) % period ≡ until = ap (λ (m : ℕ). m % period) b ∙ mod-eq_of_lt p.soon in
          f (sym d ∙ sym a ∙ p.whole) in
          ne_eqb until 0 f ∙ sym (ne_eqb (n % period) 0 g)
    ]
