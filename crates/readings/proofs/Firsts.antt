-- The first of what is found by number, looked for from the first number on.
use Rattle.std.proofs.Common.{◌≡◌, ℕ, zero, suc, ◌+◌, ◌-◌, ◌<◌, ◌≤◌, Some, None, Option, refl, ap, inl, inr, arith}
use Rattle.std.proofs.lemmas.Bool.{cases_eq}
use Rattle.std.specs.Option.{option_or}
use Rattle.readings.specs.Firsts.{first_of}

module _ {A : Type 0} where
  -- where a part gives nothing and what follows it gives nothing, neither gives anything
  clear_here : (o g : Option A) → option_or o g ≡ None → o ≡ None
  clear_here None g e = refl
  clear_here (Some x) g e = e

  clear_rest : (o g : Option A) → option_or o g ≡ None → g ≡ None
  clear_rest None g e = e
  clear_rest (Some x) g e = let z : ◌≡◌ {A = ℕ} 0 1 = cc in absurd (omega arith)

  -- of two parts in order, each is clear where both are
  pub or_clear : (o g : Option A) → option_or o g ≡ None → (o ≡ None) × (g ≡ None)
  or_clear o g e = (clear_here o g e, clear_rest o g e)

module _ {A : Type 0} (f : ℕ → Option A) where
  -- there is none below k
  abbrev pub NoneBelow : ℕ → ℕ → Type 0
  NoneBelow n k = first_of f 0 n ≡ first_of f k (n - k)

  here : (n k : ℕ) → k < n → first_of f k (n - k) ≡ option_or (f k) (first_of f (k + 1) (n - (k + 1)))
  unfolding first_of
  here n k h = let e : n - k ≡ suc (n - (k + 1)) = omega arith in rw e

  pub first_more : (n k : ℕ) → k < n → NoneBelow n k → None ≡ f k → NoneBelow n (k + 1)
  first_more n k h i e = let a = here n k h in let b = ap (λ (o : Option A). option_or o (first_of f (k + 1) (n - (k + 1)))) e in cc

  pub first_found : (n k : ℕ) (x : A) → k < n → NoneBelow n k → Some x ≡ f k → Some x ≡ first_of f 0 n
  first_found n k x h i e = let a = here n k h in let b = ap (λ (o : Option A). option_or o (first_of f (k + 1) (n - (k + 1)))) e in cc

  pub first_all : (n k : ℕ) → n ≤ k → NoneBelow n k → None ≡ first_of f 0 n
  unfolding first_of
  first_all n k h i = let e : n - k ≡ 0 = omega arith in let z : first_of f k (n - k) ≡ None = rw e in cc

  pub first_none : (k n : ℕ) → ((j : ℕ) → j < k + n → f j ≡ None) → None ≡ first_of f k n
  unfolding first_of
  first_none k zero h = refl
  first_none k (suc n) h = let a = h k (omega arith) in let b = first_none (k + 1) n (λ j l. h j (omega arith)) in cc

  -- where none is found, there is none among those looked at
  pub first_clear : (k n : ℕ) → first_of f k n ≡ None → (j : ℕ) → k ≤ j → j < k + n → f j ≡ None
  unfolding first_of
  first_clear k zero e j h l = absurd (omega arith)
  first_clear k (suc n) e j h l =
      elim (cases_eq j k) [
        | inl same ↦ rw same (clear_here (f k) _ e)
        | inr other ↦ first_clear (k + 1) n (clear_rest (f k) _ e) j (omega arith) (omega arith)
      ]
