-- The rows that a mask names.
use Rattle.std.proofs.Common.{◌≡◌, ℕ, ◌/◌, ◌^◌, ◌<◌, ◌≤◌, false, List, None, refl, pow_mono, arith}
use native.Mathlib.Nat.{zero-div}
use Rattle.std.proofs.Math.Nat.{div-eq_of_lt}
use Rattle.policy.specs.Course.{names}
use Rattle.books.specs.declared.row.Row.{Row}
use Rattle.books.specs.Slots.{sample_fault, sampled}

none_named : (k : ℕ) → names 0 k ≡ false
none_named k = rw zero-div

-- where the mask is empty no sample is at fault
pub none_sampled : (m : ℕ) (rs : List Row) → m ≡ 0 → (k : ℕ) → sample_fault m rs k ≡ None
none_sampled m rs e k = rw (e, none_named k)

-- nor does any row change
pub not_sampled : (m : ℕ) → m ≡ 0 → (k : ℕ) (r : Row) → sampled m k r ≡ r
not_sampled m e k r = rw (e, none_named k)

-- a mask of 16 bits names no row past the sixteenth
pub none_past : (m k : ℕ) → m < 65536 → 16 ≤ k → false ≡ names m k
none_past m k h l =
    let high : 2 ^ 16 ≤ 2 ^ k = pow_mono {i = 16} {j = k} l in
    let e : m / 2 ^ k ≡ 0 = div-eq_of_lt (omega arith) in
    rw e refl
