-- The rows that the masks of a strip name.
use Rattle.std.proofs.Common.{◌≡◌, ℕ, ◌+◌, ◌-◌, ◌^◌, ◌<◌, ◌≤◌, Bool, true, false, ◌&&◌, ◌||◌, cond, eqb, ap, sym, refl, ◌∙◌, inl, inr, pow_pos, arith}
use Rattle.std.proofs.lemmas.Bool.{and_right, cases_Bool, cases_eq, cond_both, eq-eqb, eqb-true, eqb-false, ne_eqb}
use Rattle.std.proofs.lemmas.Nat.Bits.{bit_at-zero, bit_at-pow_same, bit_at-pow_other, bit_at_ones}
use Rattle.std.proofs.Math.Pow.{pow-lt}
use Rattle.policy.specs.Course.{names}
use Rattle.strip.specs.Answers.{strip_samples}

-- the empty mask names no row
names_none : (k : ℕ) → names 0 k ≡ false
names_none k = ap (λ (b : ℕ). eqb b 1) (bit_at-zero k)

-- the mask of n rows names each of them
names_all : (n k : ℕ) → k < n → names (2 ^ n - 1) k ≡ true
names_all n k h = ap (λ (b : ℕ). eqb b 1) (bit_at_ones n k h)

-- the mask of row j + 1 names it, and no other
names_one : (j k : ℕ) → names (2 ^ j) k ≡ eqb k j
names_one j k =
    elim (cases_eq k j) [
      | inl same ↦ rw (same, eq-eqb j j refl) (ap (λ (b : ℕ). eqb b 1) (bit_at-pow_same j))
      | inr other ↦ rw (ne_eqb k j other) (ap (λ (b : ℕ). eqb b 1) (bit_at-pow_other j k other))
    ]

-- after slot 0 a slot samples the row that it names, if that rests
names_later : (row k : ℕ) (rests : Bool) → names (cond (eqb row 0) 0 (cond rests (2 ^ (row - 1)) 0)) k ≡ (eqb row (k + 1) && rests)
names_later row k false =
    elim (cases_Bool (eqb row 0)) [
      | inl t ↦ rw t (names_none k ∙ sym (and_right (eqb row (k + 1)) false refl))
      | inr f ↦ rw f (names_none k ∙ sym (and_right (eqb row (k + 1)) false refl))
    ]
names_later row k true =
    elim (cases_Bool (eqb row 0)) [
      | inl t ↦
          let z = eqb-true row 0 t in
          let other : eqb row (k + 1) ≡ false = ne_eqb row (k + 1) (λ e. omega arith) in
          rw (t, other) (names_none k)
      | inr f ↦
          let z = eqb-false row 0 f in
          elim (cases_eq row (k + 1)) [
            | inl same ↦
                let here : k ≡ row - 1 = omega arith in
                rw (f, eq-eqb row (k + 1) same) (names_one (row - 1) k ∙ eq-eqb k (row - 1) here)
            | inr other ↦
                let there : k ≡ row - 1 → ⊥ = λ e. other (omega arith) in
                rw (f, ne_eqb row (k + 1) other) (names_one (row - 1) k ∙ ne_eqb k (row - 1) there)
          ]
    ]

-- a strip samples row k + 1 in slot 0, and later where the slot names it and it rests
pub names_samples : (n place row k : ℕ) (rests : Bool) → k < n → names (strip_samples n place row rests) k ≡ (eqb place 0 || (eqb row (k + 1) && rests))
names_samples n place row k rests h =
    elim (cases_Bool (eqb place 0)) [
      | inl t ↦ rw t (names_all n k h)
      | inr f ↦ rw f (names_later row k rests)
    ]

-- so slot 0 samples every row
pub samples_first : (n place row : ℕ) (rests : Bool) (k : ℕ) → place ≡ 0 → k < n → names (strip_samples n place row rests) k ≡ true
samples_first n place row rests k e h = rw e (names_all n k h)

-- and a later slot the row that it names, if it rests
pub samples_later : (n place row : ℕ) (rests : Bool) (k : ℕ) → 0 < place → names (strip_samples n place row rests) k ≡ (eqb row (k + 1) && rests)
samples_later n place row rests k h = rw (ne_eqb place 0 (λ e. omega arith)) (names_later row k rests)

-- a strip samples no row past the last
pub samples_small : (n place row : ℕ) (rests : Bool) → row ≤ n → strip_samples n place row rests < 2 ^ n
samples_small n place row rests h =
    cond_both (eqb place 0) (2 ^ n - 1) _ (λ m. m < 2 ^ n) (λ start. omega (arith, pow_pos n)) (λ later.
    cond_both (eqb row 0) 0 _ (λ m. m < 2 ^ n) (λ none. pow_pos n) (λ some.
    cond_both rests (2 ^ (row - 1)) 0 (λ m. m < 2 ^ n) (λ r. let other = eqb-false row 0 some in pow-lt {i = row - 1} {j = n} (omega arith)) (λ r. pow_pos n)))
