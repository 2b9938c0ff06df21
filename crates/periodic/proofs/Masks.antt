-- The mask of the rows to sample.
use Rattle.std.proofs.Common.{◌≡◌, ℕ, zero, suc, ◌+◌, ◌*◌, ◌/◌, ◌%◌, ◌^◌, ◌<◌, ◌≤◌, cond, List, [], ◌∷◌, length, get_or, ap, ◌∙◌, mod-eq_of_lt, one-mul, pow-suc, zero-add, div-one, arith, pow_mono}
use native.Mathlib.Nat.{add-mul-div_left, add-mul-mod_self_left, div-div-eq-div-mul, div-eq_of_lt, pow-succ'}
use Rattle.std.proofs.lemmas.Bool.Decides.{nat_tests}
use Rattle.periodic.specs.declared.phase.Phase.{Phase}
use Rattle.policy.specs.Course.{names}
use Rattle.periodic.specs.Phases.{blank_phase, due, mask}

bit_small : (r : Phase) → cond (due r) 1 0 ≤ 1
bit_small r = grind (arith, nat_tests)

-- a mask has no bit past the last row
pub mask_small : (rs : List Phase) → mask rs < 2 ^ length rs
mask_small [] = omega arith
mask_small (r ∷ rs) = let b = bit_small r in let s = mask_small rs in rw pow-suc (omega arith)

-- a mask of 16 rows at most fits 16 bits
pub mask_fits : (rs : List Phase) → length rs ≤ 16 → mask rs < 65536
mask_fits rs n =
    let s = mask_small rs in
    let m : 2 ^ length rs ≤ 2 ^ 16 = pow_mono {i = length rs} {j = 16} n in
    omega arith

-- and so does a bit of it
pub bit_fits : (k : ℕ) → k < 16 → 1 * 2 ^ k % 65536 ≡ 2 ^ k
bit_fits k h =
    let m : 2 ^ k ≤ 2 ^ 15 = pow_mono {i = k} {j = 15} (omega arith) in
    ap (λ (n : ℕ). n % 65536) (one-mul (2 ^ k)) ∙ mod-eq_of_lt (omega arith)

-- the lowest bit of b + 2 * m is b, and the others are those of m
low_bit : (b m : ℕ) → b ≤ 1 → (b + 2 * m) / 2 ^ 0 % 2 ≡ b
low_bit b m h = rw div-one (add-mul-mod_self_left b 2 m ∙ mod-eq_of_lt (omega arith))

high_bits : (b m k : ℕ) → b ≤ 1 → (b + 2 * m) / 2 ^ suc k ≡ m / 2 ^ k
high_bits b m k h =
    let half : (b + 2 * m) / 2 ≡ m = add-mul-div_left b m {y = 2} (omega arith) ∙ ap (λ (n : ℕ). n + m) (div-eq_of_lt (omega arith)) ∙ zero-add m in
    rw (pow-succ', ← div-div-eq-div-mul, half)

-- the rows of a mask are those with a sample due
pub names_mask : (rs : List Phase) (k : ℕ) → k < length rs → names (mask rs) k ≡ due (get_or rs k blank_phase)
names_mask [] k h = absurd (omega arith)
names_mask (r ∷ rs) zero h = rw (low_bit (cond (due r) 1 0) (mask rs) (bit_small r)) (grind (arith, nat_tests))
names_mask (r ∷ rs) (suc k) h = rw (high_bits (cond (due r) 1 0) (mask rs) k (bit_small r)) (names_mask rs k (omega arith))
