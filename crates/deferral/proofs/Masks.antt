-- A mask is the rows that it names.
use Rattle.std.proofs.Common.{◌≡◌, ℕ, zero, suc, ◌/◌, ◌%◌, ◌^◌, ◌<◌, ◌==◌, refl, sym, ◌∙◌, inl, inr, pow-suc, div-one, arith}
use native.Mathlib.Nat.{div-div-eq-div-mul, pow-succ'}
use Rattle.std.proofs.lemmas.Bool.{cases_Bool, eqb-false, eqb-true}
use Rattle.policy.specs.Course.{names}

-- the rows but the first that a mask names are those that its half names
names_half : (m k : ℕ) → names m (suc k) ≡ names (m / 2) k
names_half m k = rw (pow-succ', ← div-div-eq-div-mul) refl

-- the lowest bit
names_first : (m : ℕ) → names m 0 ≡ (m % 2 == 1)
names_first m = rw div-one refl

same_bit : (a b : ℕ) → (a % 2 == 1) ≡ (b % 2 == 1) → a % 2 ≡ b % 2
same_bit a b e =
    elim (cases_Bool (a % 2 == 1)) [
      | inl one ↦ let one' = sym e ∙ one in eqb-true (a % 2) 1 one ∙ sym (eqb-true (b % 2) 1 one')
      | inr none ↦
          let not_a = eqb-false (a % 2) 1 none in
          let not_b = eqb-false (b % 2) 1 (sym e ∙ none) in
          omega arith
    ]

-- masks of m rows that name the same rows are equal
pub masks_equal : (m a b : ℕ) → a < 2 ^ m → b < 2 ^ m → ((k : ℕ) → k < m → names a k ≡ names b k) → a ≡ b
masks_equal zero a b h l e = omega arith
masks_equal (suc m) a b h l e =
    let half_a : a / 2 < 2 ^ m = let p = pow-suc 2 m in omega arith in
    let half_b : b / 2 < 2 ^ m = let p = pow-suc 2 m in omega arith in
    let halves = masks_equal m (a / 2) (b / 2) half_a half_b (λ k s. sym (names_half a k) ∙ e (suc k) (omega arith) ∙ names_half b k) in
    let low = same_bit a b (sym (names_first a) ∙ e 0 (omega arith) ∙ names_first b) in
    omega arith
