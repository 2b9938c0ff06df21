-- Demand grows with the slots, and how large it gets.
use Rattle.std.proofs.Common.{◌≡◌, ℕ, suc, ◌+◌, ◌*◌, ◌/◌, ◌%◌, ◌<◌, ◌≤◌, List, [], ◌∷◌, ap, inl, inr, mul-le-mul_right, mod-lt, add-mul, div-add-mod', arith}
use Rattle.std.proofs.lemmas.Bool.{cases_order}
use Rattle.std.specs.Int.{div_ceil}
use Rattle.planner.specs.Response.{demand}
use Rattle.planner.specs.Timing.{Positive}
use Rattle.planner.specs.declared.timing.Timing.{Timing}

-- more slots, no fewer periods
pub rounded_mono : (r s p : ℕ) → 1 ≤ p → r ≤ s → div_ceil r p ≤ div_ceil s p
rounded_mono r s p h l =
    let a = div-add-mod' r p in
    let b = div-add-mod' s p in
    let m : r % p < p = mod-lt r h in
    let n : s % p < p = mod-lt s h in
    elim (cases_order (r / p) (s / p)) [
      | inl same ↦ (let e : r / p * p ≡ s / p * p = ap (λ (q : ℕ). q * p) same in omega arith)
      | inr (inl less) ↦ omega arith
      | inr (inr more) ↦
          (let q : (s / p + 1) * p ≤ r / p * p = mul-le-mul_right {m = s / p + 1} {n = r / p} p (omega arith) in
          let e : (s / p + 1) * p ≡ s / p * p + 1 * p = add-mul (s / p) 1 p in
          absurd (omega arith))
    ]

pub demand_mono : (ts : List Timing) (r s : ℕ) → Positive ts → r ≤ s → demand ts r ≤ demand ts s
demand_mono [] r s h l = omega arith
demand_mono (t ∷ ts) r s h l =
    let here : div_ceil r t.period * t.work ≤ div_ceil s t.period * t.work = mul-le-mul_right t.work (rounded_mono r s t.period (h 0 t (omega arith)) l) in
    let rest = demand_mono ts r s (λ k d below. h (suc k) d (omega arith)) l in
    omega arith
