-- Slots that are free below some rows, by which of these rows have them.
use Rattle.std.proofs.Common.{◌≡◌, ℕ, ◌+◌, ◌-◌, ◌<◌, ◌≤◌, ◌⊎◌, ◌↔◌, true, false, sym, ◌∙◌, inl, inr, arith}
use Rattle.std.proofs.Math.Bool.{or-true}
use Rattle.std.proofs.lemmas.Bool.{cases_lt, eq-eqb, le-ltb, lt-ltb, ne_eqb}
use Rattle.deferral.specs.Free.{Play, free_below}

module _ (play : Play) (k n : ℕ) where
  -- no row has the slot
  pub free_none : play n ≡ 0 → free_below play k n ≡ true
  free_none e = rw (eq-eqb (play n) 0 e)

  -- a row below the first k has it
  pub free_lower : k < play n → free_below play k n ≡ true
  free_lower h = rw (lt-ltb k (play n) h, or-true)

  -- one of the first k rows has it
  pub taken_above : 0 < play n → play n ≤ k → free_below play k n ≡ false
  taken_above h l = let not_none : play n ≡ 0 → ⊥ = λ e. omega arith in rw (ne_eqb (play n) 0 not_none, le-ltb k (play n) l)

  -- and there is no other case
  pub free_cases : ((free_below play k n ≡ true) × ((play n ≡ 0) ⊎ (k < play n))) ⊎ ((free_below play k n ≡ false) × (0 < play n) × (play n ≤ k))
  free_cases =
      elim (cases_lt 0 (play n)) [
        | inl some ↦
            elim (cases_lt k (play n)) [
              | inl lower ↦ inl (free_lower lower, inr lower)
              | inr above ↦ inr (taken_above some above, some, above)
            ]
        | inr none ↦ let z : play n ≡ 0 = omega arith in inl (free_none z, inl z)
      ]

-- the first k rows have the same slot of both
abbrev pub AlikeAt : Play → Play → (k n : ℕ) → Type 0
AlikeAt p q k n = (i : ℕ) → i < k → (p n ≡ i + 1) ↔ (q n ≡ i + 1)

-- where one of the first k rows has a slot of the one, it has that of the other
alike_taken : (p q : Play) (k n : ℕ) → AlikeAt p q k n → 0 < p n → p n ≤ k → q n ≡ p n
alike_taken p q k n alike some above =
    let row : p n ≡ (p n - 1) + 1 = omega arith in
    (alike (p n - 1) (omega arith)).0 row ∙ sym row

pub alike_back : (p q : Play) (k n : ℕ) → AlikeAt p q k n → AlikeAt q p k n
alike_back p q k n alike i h = ((alike i h).1, (alike i h).0)

-- where they do, it is free below them in both or in neither
pub free_alike : (p q : Play) (k n : ℕ) → AlikeAt p q k n → free_below p k n ≡ free_below q k n
free_alike p q k n alike =
    elim (free_cases p k n) [
      | inl (free, _) ↦
          elim (free_cases q k n) [
            | inl (free', _) ↦ free ∙ sym free'
            | inr (taken', some, above) ↦
                let same = alike_taken q p k n (alike_back p q k n alike) some above in
                taken_above p k n (omega arith) (omega arith) ∙ sym taken'
          ]
      | inr (taken, some, above) ↦
          let same = alike_taken p q k n alike some above in
          taken ∙ sym (taken_above q k n (omega arith) (omega arith))
    ]

-- no row at all has a slot
pub alike_none : (p q : Play) (n : ℕ) → AlikeAt p q 0 n
alike_none p q n i h = absurd (omega arith)

-- one row more
pub alike_more : (p q : Play) (k n : ℕ) → AlikeAt p q k n → ((p n ≡ k + 1) ↔ (q n ≡ k + 1)) → AlikeAt p q (k + 1) n
alike_more p q k n alike here i h =
    elim (cases_lt i k) [
      | inl less ↦ alike i less
      | inr more ↦ let same : i ≡ k = omega arith in rw same here
    ]

-- where no other rows have the slot, it is the same row's, or no row's in both
pub alike_all : (p q : Play) (k n : ℕ) → AlikeAt p q k n → p n ≤ k → q n ≤ k → p n ≡ q n
alike_all p q k n alike h l =
    elim (cases_lt 0 (p n)) [
      | inl some ↦ sym (alike_taken p q k n alike some h)
      | inr none ↦
          elim (cases_lt 0 (q n)) [
            | inl some ↦ alike_taken q p k n (alike_back p q k n alike) some l
            | inr none' ↦ omega arith
          ]
    ]
