-- A bank of two kinds stands at the positions of two policies and the number of the used one, 1 for
-- the first and any other for the second. It has the laws of a policy, since both kinds have them.
use Rattle.std.specs.Prelude.{◌≡◌, ℕ, ◌+◌, Bool, true, if◌then◌else◌, ◌&&◌, ◌==◌}
use Rattle.std.proofs.Common.{inl, inr}
use Rattle.std.proofs.lemmas.Bool.{and_parts, cases_Bool, eqb-true}
use Rattle.policy.specs.Course.{Course, Meaning}

module _ {A B : Type 0} (first : Meaning A) (second : Meaning B) where
  -- the course of a bank is that of the used policy
  abbrev pub course : A × B × ℕ → Course
  course bank n = if bank.2 == 1 then first.course bank.0 n else second.course bank.1 n

  -- only the used policy moves on
  abbrev pub next : A × B × ℕ → A × B × ℕ
  next bank = (
    if bank.2 == 1 then first.next bank.0 else bank.0,
    if bank.2 == 1 then bank.1 else second.next bank.1,
    bank.2,
  )

  -- two banks compare yes when the numbers are equal and the used policies compare yes
  abbrev pub alike : A × B × ℕ → A × B × ℕ → Bool
  alike x y = x.2 == y.2 && (if x.2 == 1 then first.alike x.0 y.0 else second.alike x.1 y.1)

  -- a step moves the course on by one
  pub onward : (k : A × B × ℕ) (n : ℕ) → course (next k) n ≡ course k (n + 1)
  onward k n =
      elim (cases_Bool (k.2 == 1)) [
        | inl t ↦ rw t (first.onward k.0 n)
        | inr t ↦ rw t (second.onward k.1 n)
      ]

  -- a yes means that both courses agree at every n
  pub agree : (x y : A × B × ℕ) → alike x y ≡ true → (n : ℕ) → course x n ≡ course y n
  agree x y h n =
      let both = and_parts _ _ h in
      let e = eqb-true x.2 y.2 both.0 in
      elim (cases_Bool (x.2 == 1)) [
        | inl t ↦ rw (← e, t) (first.agree x.0 y.0 (rw t at both.1) n)
        | inr t ↦ rw (← e, t) (second.agree x.1 y.1 (rw t at both.1) n)
      ]
