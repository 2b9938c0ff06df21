-- A comparison that says yes exactly where both are equal is an equivalence.
use Rattle.std.specs.Prelude.{◌≡◌, Bool, true}
use Rattle.std.specs.Cmp.{IsEquivalence, both_ways}
use Rattle.std.proofs.Common.{ap, subst}

module _ {K : Type 0} (E : K → K → Bool) (from : (x y : K) → E x y ≡ true → x ≡ y) (to : (x : K) → E x x ≡ true) where
  turned : (x y : K) → E x y ≡ true → E y x ≡ true
  turned x y h = subst (λ (z : K). E z x ≡ true) (from x y h) (to x)

  pub equivalence : IsEquivalence E
  equivalence =
      record {
        refl = to;
        symm = λ x y. both_ways (E x y) (E y x) (turned x y) (turned y x);
        congr = λ x y z h. ap (λ (w : K). E w z) (from x y h);
      }
