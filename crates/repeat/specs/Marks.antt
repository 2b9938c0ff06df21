-- The instants of a stepping thing, and the mark of each: the largest number below it of the form
-- 2^k - 1, so one of 0, 1, 3, 7, ...
use Rattle.std.specs.Prelude.{◌≡◌, ℕ, zero, suc, ◌+◌, ◌*◌, ◌^◌, ◌<◌, ◌≤◌, Bool, if◌then◌else◌, ◌==◌}

-- the state n steps on
abbrev pub after : {S : Type 0} → (S → S) → ℕ → S → S
after next zero s = s
after next (suc n) s = next (after next n s)

-- t is the number of the form 2^k - 1 that follows m, which is one itself
abbrev pub is_next_mark : ℕ → ℕ → Bool
is_next_mark m t = t == 2 * m + 1

-- the mark of the instant after t, where m is the mark of t: t if it follows m, and else still m
abbrev pub next_mark : ℕ → ℕ → ℕ
next_mark m t = if is_next_mark m t then t else m

-- the mark of an instant, from instant to instant: that of instant 1 is 0
abbrev pub mark_of : ℕ → ℕ
mark_of zero = 0
mark_of (suc t) = next_mark (mark_of t) t

-- m is of the form 2^k - 1
abbrev pub Formed : ℕ → Type 0
Formed m = (k : ℕ) × (m + 1 ≡ 2 ^ k)

-- m is the largest number below t of the form 2^k - 1
pub record Largest (t m : ℕ) : Type 0 where
  pub below : m < t
  pub formed : Formed m
  pub most : (n : ℕ) → n < t → Formed n → n ≤ m
