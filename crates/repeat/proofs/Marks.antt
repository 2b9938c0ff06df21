-- The mark of an instant is the largest number below it of the form 2^k - 1.
use Rattle.std.proofs.Common.{◌≡◌, ℕ, zero, suc, ◌+◌, ◌*◌, ◌<◌, ◌≤◌, refl, inl, inr, pow-suc, arith, pow_mono}
use Rattle.std.proofs.lemmas.Bool.{cases_lt, cond_both, eqb-false, eqb-true}
use Rattle.repeat.specs.Marks.{Formed, Largest, is_next_mark, mark_of, next_mark}

-- the number of the form that follows m
following : (m : ℕ) → Formed m → Formed (2 * m + 1)
following m (k, e) = (suc k, omega (arith, pow-suc 2 k))

-- no number of the form lies between m and the one that follows it
gap : (m n : ℕ) → Formed m → Formed n → m < n → 2 * m + 1 ≤ n
gap m n (k, e) (j, f) h =
    elim (cases_lt k j) [
      | inl less ↦ omega (arith, pow-suc 2 k, pow_mono {i = suc k} {j = j} less)
      | inr more ↦ absurd (omega (arith, pow_mono {i = j} {j = k} more))
    ]

-- an instant that follows the mark is the next mark
taken : (t m : ℕ) → Largest t m → t ≡ 2 * m + 1 → Largest (suc t) t
taken t m l e = record { below = omega arith; formed = rw e (following m l.formed); most = λ n h f. omega arith }

-- no other instant is of the form: the number that follows the mark would lie below it
unformed : (t m : ℕ) → Largest t m → (t ≡ 2 * m + 1 → ⊥) → Formed t → ⊥
unformed t m l e f =
    let far : 2 * m + 1 ≤ t = gap m t l.formed f l.below in
    let between : 2 * m + 1 ≤ m = l.most (2 * m + 1) (omega arith) (following m l.formed) in
    omega arith

-- and so it leaves the mark as it is
stays : (t m : ℕ) → Largest t m → (t ≡ 2 * m + 1 → ⊥) → Largest (suc t) m
stays t m l e =
    record {
      below = omega arith;
      formed = l.formed;
      most = λ n h f.
          elim (cases_lt n t) [
            | inl less ↦ l.most n less f
            | inr more ↦ let here : n ≡ t = omega arith in absurd (unformed t m l e (rw here at f))
          ];
    }

-- the mark one instant on
renewed : (t m : ℕ) → Largest t m → Largest (suc t) (next_mark m t)
renewed t m l = cond_both (is_next_mark m t) t m (Largest (suc t)) (λ e. taken t m l (eqb-true _ _ e)) (λ e. stays t m l (eqb-false _ _ e))

-- the mark of an instant is the largest number below it of the form 2^k - 1
pub largest : (t : ℕ) → 0 < t → Largest t (mark_of t)
largest zero h = absurd (omega arith)
largest (suc zero) h = record { below = omega arith; formed = (0, refl); most = λ n h f. omega arith }
largest (suc (suc t)) h = renewed (suc t) (mark_of (suc t)) (largest (suc t) (omega arith))
