-- What the kinds of policy of this crate mean: one that never samples or runs, and one whose
-- comparison always says no.
use Rattle.std.specs.Prelude.{◌≡◌, true, false, refl}
use Rattle.policy.specs.Course.{Meaning}

-- of a comparison that always says no nothing is asked
pub never_yes : {X : Type 0} (x y : X) → false ≡ true → x ≡ y
never_yes x y h = cc

-- another kind, with a comparison that always says no
abbrev pub never_alike_meaning : {Pos : Type 0} → Meaning Pos → Meaning Pos
never_alike_meaning kind =
    record {
      course = kind.course;
      next = kind.next;
      alike = λ _ _. false;
      onward = kind.onward;
      agree = λ p q h n. never_yes (kind.course p n) (kind.course q n) h;
    }

-- a kind that never samples or runs a row
abbrev pub inactive_meaning : Meaning (Unit {0})
inactive_meaning =
    record {
      course = λ _ _. (0, 0);
      next = λ p. p;
      alike = λ _ _. true;
      onward = λ _ _. refl;
      agree = λ _ _ _ _. refl;
    }
