-- Strips: what the rows laid on one leave of it.
use Rattle.std.proofs.Common.{◌≡◌, ◌⊎◌, ◌↔◌, ℕ, ◌+◌, ◌<◌, ◌≤◌, Bool, true, false, List, [], ◌∷◌, length, slice_index, refl, sym, ◌∙◌, inl, inr, arith}
use Rattle.std.proofs.lemmas.Bool.{cases_Bool, cases_lt, cond-true, cond-false, eq-eqb, eqb-true, le-ltb, lt-ltb, ne_eqb, or_cases, or_from, or_left, or_right}
use Rattle.std.proofs.lemmas.List.{get_or_past}
use Rattle.std.specs.List.{list_any}
use Rattle.books.proofs.Each.{get_or_each, length_each}
use Rattle.deferral.proofs.Rules.{takes_parts}
use Rattle.deferral.specs.Free.{Free, free_below, free_in, play_of}
use Rattle.deferral.specs.Jobs.{takes}
use Rattle.deferral.specs.Laying.{with_jobs}
use Rattle.deferral.specs.declared.span.Span.{Span}

-- no slot has a row below the k-th
abbrev pub UpTo : (k : ℕ) → List ℕ → Type 0
UpTo k xs = (n : ℕ) → slice_index xs n ≤ k

-- a strip once rows below the k-th are laid on it: they have free slots only
pub record Onward (k : ℕ) (xs zs : List ℕ) : Type 0 where
  pub kept : (n : ℕ) → 0 < slice_index xs n → slice_index zs n ≡ slice_index xs n
  pub others : (n : ℕ) → slice_index xs n ≡ 0 → (slice_index zs n ≡ 0) ⊎ (k < slice_index zs n)

-- no row more
pub onward_none : (k : ℕ) (xs : List ℕ) → Onward k xs xs
onward_none k xs = record { kept = λ n h. refl; others = λ n e. inl e }

-- row k + 1, and then the rows below it
pub onward_more : (k : ℕ) (xs ys zs : List ℕ) → Onward k xs ys → Onward (k + 1) ys zs → Onward k xs zs
onward_more k xs ys zs o p =
    record {
      kept = λ n h.
          let here = o.kept n h in
          p.kept n (omega arith) ∙ here;
      others = λ n e.
          elim (cases_lt 0 (slice_index ys n)) [
            | inl more ↦
                let same = p.kept n more in
                elim (o.others n e) [ inl none ↦ absurd (omega arith) | inr past ↦ inr (omega arith) ]
            | inr none ↦ elim (p.others n (omega arith)) [ inl free ↦ inl free | inr past ↦ inr (omega arith) ]
          ];
    }

-- what is free before rows below the k-th are laid is, after them, free below the k-th row
pub same_free : (k : ℕ) (xs zs : List ℕ) → UpTo k xs → Onward k xs zs → (n : ℕ) → free_in xs n ≡ free_below (play_of zs) k n
same_free k xs zs u o n =
    let here = u n in
    elim (cases_lt 0 (slice_index xs n)) [
      | inl more ↦
          let same = o.kept n more in
          ne_eqb (slice_index xs n) 0 (λ e. omega arith)
          ∙ sym (or_from _ _ (ne_eqb (slice_index zs n) 0 (λ e. omega arith)) (le-ltb k (slice_index zs n) (omega arith)))
      | inr none ↦
          let e : slice_index xs n ≡ 0 = omega arith in
          eq-eqb (slice_index xs n) 0 e
          ∙ sym (elim (o.others n e) [ inl free ↦ or_left _ _ (eq-eqb (slice_index zs n) 0 free) | inr past ↦ or_right _ _ (lt-ltb k (slice_index zs n) past) ])
    ]

-- a slot that one of some jobs takes is free
any_free : (f : Free) (js : List Span) (n : ℕ) → list_any (λ s. takes f s n) js ≡ true → f n ≡ true
any_free f [] n t = absurd (cc)
any_free f (s ∷ js) n t =
    elim (or_cases (takes f s n) (list_any (λ s. takes f s n) js) t) [
      | inl first ↦ (takes_parts f s n first).free
      | inr others ↦ any_free f js n others
    ]

-- a row laid on a strip xs, with all its jobs inside
module _ (k : ℕ) (xs : List ℕ) (js : List Span) (inside : (n : ℕ) → list_any (λ s. takes (free_in xs) s n) js ≡ true → n < length xs) where
  -- whether the row takes a slot
  abbrev taken : ℕ → Bool
  taken n = list_any (λ s. takes (free_in xs) s n) js

  -- the strip with it
  abbrev ys : List ℕ
  ys = with_jobs (k + 1) js xs

  -- it is as long
  pub length_with : length ys ≡ length xs
  length_with = length_each _ 0 xs

  -- the row has the slots that it takes
  has_taken : (n : ℕ) → taken n ≡ true → slice_index ys n ≡ k + 1
  has_taken n t = get_or_each _ xs n 0 (inside n t) ∙ cond-true (taken n) (k + 1) (slice_index xs n) t

  -- and each other slot is as before
  as_before : (n : ℕ) → taken n ≡ false → slice_index ys n ≡ slice_index xs n
  as_before n t =
      elim (cases_lt n (length xs)) [
        | inl less ↦ get_or_each _ xs n 0 less ∙ cond-false (taken n) (k + 1) (slice_index xs n) t
        | inr past ↦ let same = length_with in get_or_past ys n 0 (omega arith) ∙ sym (get_or_past xs n 0 past)
      ]

  -- so no row below it is on the strip
  pub up_to_with : UpTo k xs → UpTo (k + 1) ys
  up_to_with u n =
      let here = u n in
      elim (cases_Bool (taken n)) [
        | inl t ↦ let is = has_taken n t in omega arith
        | inr t ↦ let is = as_before n t in omega arith
      ]

  -- it takes free slots only
  pub onward_with : Onward k xs ys
  onward_with =
      record {
        kept = λ n h.
            elim (cases_Bool (taken n)) [
              | inl t ↦ let free = eqb-true _ _ (any_free (free_in xs) js n t) in absurd (omega arith)
              | inr t ↦ as_before n t
            ];
        others = λ n e.
            elim (cases_Bool (taken n)) [
              | inl t ↦ let is = has_taken n t in inr (omega arith)
              | inr t ↦ inl (as_before n t ∙ e)
            ];
      }

  -- and when rows below it are laid, it still has just the slots that it takes
  pub runs_with : (zs : List ℕ) → UpTo k xs → Onward (k + 1) ys zs → (n : ℕ) → (slice_index zs n ≡ k + 1) ↔ (taken n ≡ true)
  runs_with zs u o n =
      let here = u n in (
        λ e. elim (cases_Bool (taken n)) [
          | inl t ↦ t
          | inr t ↦
              let is = as_before n t in
              elim (cases_lt 0 (slice_index ys n)) [
                | inl more ↦ let same = o.kept n more in absurd (omega arith)
                | inr none ↦ elim (o.others n (omega arith)) [ inl free ↦ absurd (omega arith) | inr past ↦ absurd (omega arith) ]
              ]
        ],
        λ t. let is = has_taken n t in o.kept n (omega arith) ∙ is,
      )
