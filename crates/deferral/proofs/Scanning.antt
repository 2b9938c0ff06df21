-- The last free slots before a slot, one slot more at the end, and in two strips that are alike from a slot on.
use Rattle.std.proofs.Common.{◌≡◌, ℕ, zero, suc, ◌+◌, ◌-◌, ◌≤◌, true, false, refl, sym, ap, ◌∙◌, inl, inr, add-one, arith}
use Rattle.std.proofs.lemmas.Bool.{cases_Bool, cases_lt, cond-true, cond-false}
use Rattle.deferral.proofs.Counting.{between_last, between_none, one_if, one_if_free, one_if_taken}
use Rattle.deferral.specs.Free.{Free, free_between, last_free}

-- two are alike from a slot on
abbrev pub AlikeFrom : ℕ → Free → Free → Type 0
AlikeFrom a f g = (n : ℕ) → a ≤ n → f n ≡ g n

-- then the last of them are the same
pub same_last : (f g : Free) (a d c : ℕ) → AlikeFrom a f g → c ≤ free_between f a d → last_free f d c ≡ last_free g d c
same_last f g a zero c h l = refl
same_last f g a (suc d) zero h l = refl
same_last f g a (suc d) (suc c) h l =
    elim (cases_lt d a) [
      | inl less ↦ let n = between_none f a (suc d) (omega arith) in absurd (omega arith)
      | inr more ↦
          let n : free_between f a (suc d) ≡ free_between f a d + one_if (f d) = rw (sym (add-one d)) (between_last f a d more) in
          let e = h d more in
          elim (cases_Bool (f d)) [
            | inl is ↦
                let k = one_if_free (f d) is in
                let i = same_last f g a d c h (omega arith) in
                rw (is, sym e ∙ is) i
            | inr not ↦
                let k = one_if_taken (f d) not in
                let i = same_last f g a d (suc c) h (omega arith) in
                rw (not, sym e ∙ not) i
          ]
    ]

-- the last free slots up to a slot: it is free and one of them
pub last_with : (free : Free) (n c : ℕ) → 1 ≤ c → free n ≡ true → last_free free (n + 1) c ≡ last_free free n (c - 1)
last_with free n c h e =
    let a : c ≡ suc (c - 1) = omega arith in
    ap (λ (m : ℕ). last_free free m c) (add-one n) ∙ (ap (λ (m : ℕ). last_free free (suc n) m) a ∙ cond-true (free n) (last_free free n (c - 1)) (last_free free n (suc (c - 1))) e)

-- or it is not free, and they lie before it
pub last_without : (free : Free) (n c : ℕ) → 1 ≤ c → free n ≡ false → last_free free (n + 1) c ≡ last_free free n c
last_without free n c h e =
    let a : c ≡ suc (c - 1) = omega arith in
    ap (λ (m : ℕ). last_free free m c) (add-one n) ∙ (ap (λ (m : ℕ). last_free free (suc n) m) a ∙ (cond-false (free n) (last_free free n (c - 1)) (last_free free n (suc (c - 1))) e ∙ ap (λ (m : ℕ). last_free free n m) (sym a)))

-- they begin no later than they end
pub last_before : (free : Free) (n c : ℕ) → last_free free n c ≤ n
last_before free zero c = omega arith
last_before free (suc n) zero = omega arith
last_before free (suc n) (suc c) =
    let a = last_before free n c in
    let b = last_before free n (suc c) in
    elim (cases_Bool (free n)) [ inl is ↦ rw is (omega arith) | inr not ↦ rw not (omega arith) ]
