-- The places of a strip that are played, slot by slot.
use Rattle.std.proofs.Common.{◌≡◌, ℕ, suc, ◌+◌, ◌-◌, ◌%◌, ◌<◌, ◌≤◌, cond, eqb, ap, ◌∙◌, inl, inr, arith}
use native.Mathlib.Nat.{mod-eq_of_lt, mod-lt, mod_self, suc-mod, zero-mod}
use Rattle.std.proofs.lemmas.Bool.{cases_eq, cases_lt, eq-eqb, ne_eqb}
use Rattle.strip.proofs.Looped.{past_mark, plays_itself}
use Rattle.walk.specs.Loops.{in_loop}

-- a remainder one further
last_turn : (m length : ℕ) → m % length + 1 ≡ length → suc m % length ≡ 0
last_turn m length e = let whole : suc (m % length) ≡ length = omega arith in suc-mod m length ∙ ap (λ (n : ℕ). n % length) whole ∙ mod_self length

within_turn : (m length : ℕ) → m % length + 1 < length → suc m % length ≡ m % length + 1
within_turn m length h = let less : suc (m % length) < length = omega arith in suc-mod m length ∙ mod-eq_of_lt less ∙ omega arith

-- the place of slot n
abbrev pub place_at : (first last n : ℕ) → ℕ
place_at first last n = in_loop first (last + 1 - first) n

module _ (first last : ℕ) (low : 1 ≤ first) (ordered : first ≤ last) where
  pub first_place : place_at first last 0 ≡ 0
  first_place = plays_itself first (last + 1 - first) 0 (omega arith)

  pub later_place : (n : ℕ) → 0 < n → 0 < place_at first last n
  later_place n h =
      elim (cases_lt n first) [
        | inl less ↦ omega (arith, plays_itself first (last + 1 - first) n (omega arith))
        | inr past ↦ omega (arith, past_mark first (last + 1 - first) n past)
      ]

  pub inside_loop : (n : ℕ) → place_at first last n ≤ last
  inside_loop n =
      elim (cases_lt n first) [
        | inl less ↦ omega (arith, plays_itself first (last + 1 - first) n (omega arith))
        | inr past ↦
            let some : 0 < last + 1 - first = omega arith in
            omega (arith, past_mark first (last + 1 - first) n past, mod-lt (n - first) some)
      ]

  -- where slot n lies before the loop
  next_before : (n : ℕ) → n < first → cond (eqb (place_at first last n) last) first (place_at first last n + 1) ≡ place_at first last (suc n)
  next_before n less =
      let here = plays_itself first (last + 1 - first) n (omega arith) in
      let on : n + 1 ≡ place_at first last (suc n) =
      elim (cases_lt (suc n) first) [
        | inl still ↦ omega (arith, plays_itself first (last + 1 - first) (suc n) (omega arith))
        | inr there ↦
            let none : suc n - first ≡ 0 = omega arith in
            omega (arith, past_mark first (last + 1 - first) (suc n) there, ap (λ (m : ℕ). m % (last + 1 - first)) none ∙ zero-mod (last + 1 - first))
      ] in
      rw (here, ne_eqb n last (λ e. omega arith)) on

  -- and where it does not
  next_inside : (n : ℕ) → first ≤ n → cond (eqb (place_at first last n) last) first (place_at first last n + 1) ≡ place_at first last (suc n)
  next_inside n past =
      let length = last + 1 - first in
      let m = n - first in
      let some : 0 < length = omega arith in
      let here = past_mark first length n past in
      let less = mod-lt m some in
      let more : suc n - first ≡ suc m = omega arith in
      let there : place_at first last (suc n) ≡ first + suc m % length = past_mark first length (suc n) (omega arith) ∙ ap (λ (k : ℕ). first + k % length) more in
      elim (cases_eq (m % length + 1) length) [
        | inl e ↦ rw (here, eq-eqb (first + m % length) last (omega arith)) (omega (arith, there, last_turn m length e))
        | inr f ↦ rw (here, ne_eqb (first + m % length) last (λ z. f (omega arith))) (omega (arith, there, within_turn m length (omega arith)))
      ]

  -- after the loop's last slot comes its first
  pub next_place : (n : ℕ) → cond (eqb (place_at first last n) last) first (place_at first last n + 1) ≡ place_at first last (suc n)
  next_place n = elim (cases_lt n first) [ inl less ↦ next_before n less | inr past ↦ next_inside n past ]
