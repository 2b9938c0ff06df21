-- A strip slot by slot, once jobs have taken their slots.
use Rattle.std.proofs.Common.{◌≡◌, ℕ, ◌+◌, ◌<◌, ◌≤◌, Bool, true, false, ◌&&◌, ◌||◌, cond, eqb, leb, ltb, List, [], ◌∷◌, length, get_or, set, refl, sym, ap, ◌∙◌, inl, inr, arith}
use Rattle.std.proofs.lemmas.Bool.{and_from, and_left, and_right, cases_Bool, cases_eq, cases_lt, cond-true, cond-false, le-leb, le-ltb, lt-leb, lt-ltb}
use Rattle.std.proofs.lemmas.List.{get_or-set_other, get_or-set_same, get_or_past, length-set, same_lists}
use Rattle.std.specs.List.{list_any}
use Rattle.books.proofs.Each.{each_same, get_or_each, length_each}
use Rattle.deferral.specs.Free.{Free, free_in}
use Rattle.deferral.specs.Jobs.{takes}
use Rattle.deferral.specs.Laying.{with_jobs}
use Rattle.deferral.specs.declared.span.Span.{Span}
use Rattle.deferral.proofs.Scanning.{AlikeFrom}

-- one of these jobs takes the slot
abbrev taken_by : Free → List Span → ℕ → Bool
taken_by free js n = list_any (λ s. takes free s n) js

-- which depends on that slot alone
taken_alike : (f g : Free) (js : List Span) (n : ℕ) → f n ≡ g n → taken_by f js n ≡ taken_by g js n
taken_alike f g [] n e = refl
taken_alike f g (s ∷ js) n e = let i = taken_alike f g js n e in cc

-- nothing or a test is the test
or_false : (b : Bool) → (b || false) ≡ b
or_false true = refl
or_false false = refl

-- a strip with jobs
module _ (row : ℕ) (xs : List ℕ) where
  -- it keeps its length
  pub length_with : (js : List Span) → length (with_jobs row js xs) ≡ length xs
  length_with js = length_each (λ n x. cond (taken_by (free_in xs) js n) row x) 0 xs

  -- what a slot holds then
  pub at_with : (js : List Span) (n d : ℕ) → n < length xs → get_or (with_jobs row js xs) n d ≡ cond (taken_by (free_in xs) js n) row (get_or xs n d)
  at_with js n d h = get_or_each (λ n x. cond (taken_by (free_in xs) js n) row x) xs n d h

  -- with one job
  pub at_one : (s : Span) (n d : ℕ) → n < length xs → get_or (with_jobs row (s ∷ []) xs) n d ≡ cond (takes (free_in xs) s n) row (get_or xs n d)
  at_one s n d h = at_with (s ∷ []) n d h ∙ ap (λ (b : Bool). cond b row (get_or xs n d)) (or_false (takes (free_in xs) s n))

  -- a slot that it does not take stays as it is
  pub untaken : (s : Span) (n d : ℕ) → takes (free_in xs) s n ≡ false → get_or (with_jobs row (s ∷ []) xs) n d ≡ get_or xs n d
  untaken s n d e =
      elim (cases_lt n (length xs)) [
        | inl less ↦ at_one s n d less ∙ cond-false (takes (free_in xs) s n) row (get_or xs n d) e
        | inr more ↦
            get_or_past (with_jobs row (s ∷ []) xs) n d (let l = length_with (s ∷ []) in omega arith) ∙ sym (get_or_past xs n d more)
      ]

  -- so do those past it
  pub alike_past : (s : Span) → AlikeFrom s.deadline (free_in (with_jobs row (s ∷ []) xs)) (free_in xs)
  alike_past s n h =
      ap (λ (x : ℕ). eqb x 0) (untaken s n 0 (and_right (free_in xs n) (leb s.sample n && ltb n s.deadline) (and_right (leb s.sample n) (ltb n s.deadline) (le-ltb n s.deadline h))))

-- a choice between two that are the same
cond_same : (b : Bool) (x : ℕ) → cond b x x ≡ x
cond_same true x = refl
cond_same false x = refl

-- a strip with one job more
module _ (row : ℕ) (xs : List ℕ) (s : Span) where
  -- slot by slot
  one_more_at : (js : List Span) (n d : ℕ) → n < length xs → get_or (with_jobs row js (with_jobs row (s ∷ []) xs)) n d ≡ get_or (with_jobs row (s ∷ js) xs) n d
  one_more_at js n d h =
      let ys : List ℕ = with_jobs row (s ∷ []) xs in
      let first = at_with row ys js n d (let l = length_with row xs (s ∷ []) in omega arith) in
      let both = at_with row xs (s ∷ js) n d h in
      elim (cases_Bool (takes (free_in xs) s n)) [
        | inl is ↦
            let one = at_one row xs s n d h in
            let t = cond-true (takes (free_in xs) s n) row (get_or xs n d) is in
            let c = cond_same (taken_by (free_in ys) js n) row in
            cc
        | inr not ↦
            let one = untaken row xs s n d not in
            let a = taken_alike (free_in ys) (free_in xs) js n (ap (λ (x : ℕ). eqb x 0) (untaken row xs s n 0 not)) in
            cc
      ]

  -- jobs after one, laid on what it leaves
  pub one_more : (js : List Span) → with_jobs row js (with_jobs row (s ∷ []) xs) ≡ with_jobs row (s ∷ js) xs
  one_more js =
      let ys : List ℕ = with_jobs row (s ∷ []) xs in
      let l : length (with_jobs row js ys) ≡ length xs = length_with row ys js ∙ length_with row xs (s ∷ []) in
      same_lists (with_jobs row js ys) (with_jobs row (s ∷ js) xs) (l ∙ sym (length_with row xs (s ∷ js)))
      (λ n d h. one_more_at js n d (omega arith))

-- the slots from a job's sample on and before its deadline
abbrev inside : Span → ℕ → Bool
inside s n = leb s.sample n && ltb n s.deadline

-- a span that has one slot more than another
pub record Longer (slot : ℕ) (s t : Span) : Type 0 where
  others : (n : ℕ) → (n ≡ slot → ⊥) → inside s n ≡ inside t n
  was : inside s slot ≡ false
  is : inside t slot ≡ true

-- an upper bound moved by one tells apart the slot between alone
ltb_more : (n b : ℕ) → (n ≡ b → ⊥) → ltb n b ≡ ltb n (b + 1)
ltb_more n b e =
    elim (cases_lt n b) [
      | inl less ↦ lt-ltb n b less ∙ sym (lt-ltb n (b + 1) (omega arith))
      | inr more ↦ le-ltb n b more ∙ sym (le-ltb n (b + 1) (omega arith))
    ]

-- as does a lower bound
leb_more : (a n : ℕ) → (n ≡ a → ⊥) → leb (a + 1) n ≡ leb a n
leb_more a n e =
    elim (cases_lt n a) [
      | inl less ↦ lt-leb (a + 1) n (omega arith) ∙ sym (lt-leb a n less)
      | inr more ↦ le-leb (a + 1) n (omega arith) ∙ sym (le-leb a n more)
    ]

-- one slot more at the end
pub longer_up : (a slot : ℕ) → a ≤ slot → Longer slot (record { sample = a; deadline = slot }) (record { sample = a; deadline = slot + 1 })
longer_up a slot h = record {
  others = λ n e. ap (λ (b : Bool). leb a n && b) (ltb_more n slot e);
  was = and_right (leb a slot) (ltb slot slot) (le-ltb slot slot (omega arith));
  is = and_from (leb a slot) (ltb slot (slot + 1)) (le-leb a slot h) (lt-ltb slot (slot + 1) (omega arith));
}

-- one slot more at the beginning
pub longer_down : (slot b : ℕ) → slot < b → Longer slot (record { sample = slot + 1; deadline = b }) (record { sample = slot; deadline = b })
longer_down slot b h = record {
  others = λ n e. ap (λ (c : Bool). c && ltb n b) (leb_more slot n e);
  was = and_left (leb (slot + 1) slot) (ltb slot b) (lt-leb (slot + 1) slot (omega arith));
  is = and_from (leb slot slot) (ltb slot b) (le-leb slot slot (omega arith)) (lt-ltb slot b h);
}

-- a strip with a job, and with the same job longer by a slot
module _ (row : ℕ) (xs : List ℕ) {slot : ℕ} {s t : Span} (h : slot < length xs) (longer : Longer slot s t) where
  -- the other slots hold the same
  other : (n d : ℕ) → n < length xs → (n ≡ slot → ⊥) → get_or (with_jobs row (s ∷ []) xs) n d ≡ get_or (with_jobs row (t ∷ []) xs) n d
  other n d l e =
      let i = longer.others n e in
      let a = at_one row xs s n d l in
      let b = at_one row xs t n d l in
      cc

  -- the slot has not been taken yet
  pub not_yet : (d : ℕ) → get_or (with_jobs row (s ∷ []) xs) slot d ≡ get_or xs slot d
  not_yet d = untaken row xs s slot d (and_right (free_in xs slot) (inside s slot) longer.was)

  -- as many slots
  same_length : length (with_jobs row (s ∷ []) xs) ≡ length (with_jobs row (t ∷ []) xs)
  same_length = length_with row xs (s ∷ []) ∙ sym (length_with row xs (t ∷ []))

  -- a slot that is not free stays as it is
  pub skipped : free_in xs slot ≡ false → with_jobs row (s ∷ []) xs ≡ with_jobs row (t ∷ []) xs
  skipped e =
      same_lists (with_jobs row (s ∷ []) xs) (with_jobs row (t ∷ []) xs) same_length (λ n d l.
      elim (cases_eq n slot) [
        | inl same ↦ rw same (not_yet d ∙ sym (untaken row xs t slot d (and_left (free_in xs slot) (inside t slot) e)))
        | inr apart ↦ let i = length_with row xs (s ∷ []) in other n d (omega arith) apart
      ])

  -- a free slot is taken
  pub taken : free_in xs slot ≡ true → set (with_jobs row (s ∷ []) xs) slot row ≡ with_jobs row (t ∷ []) xs
  taken e =
      let ys : List ℕ = with_jobs row (s ∷ []) xs in
      let i : length ys ≡ length xs = length_with row xs (s ∷ []) in
      let k : length (set ys slot row) ≡ length ys = length-set ys slot row in
      same_lists (set ys slot row) (with_jobs row (t ∷ []) xs) (k ∙ same_length) (λ n d l.
      elim (cases_eq n slot) [
        | inl same ↦
            let a = get_or-set_same ys slot row d (omega arith) in
            let b = at_one row xs t slot d h in
            let c = cond-true (takes (free_in xs) t slot) row (get_or xs slot d) (and_from (free_in xs slot) (inside t slot) e longer.is) in
            rw same (a ∙ sym (b ∙ c))
        | inr apart ↦ get_or-set_other ys slot n row d apart ∙ other n d (omega arith) apart
      ])

-- an empty span takes no slot
none_inside : (a n : ℕ) → inside (record { sample = a; deadline = a }) n ≡ false
none_inside a n =
    elim (cases_lt n a) [
      | inl less ↦ and_left (leb a n) (ltb n a) (lt-leb a n less)
      | inr more ↦ and_right (leb a n) (ltb n a) (le-ltb n a more)
    ]

-- so a job of no slots leaves a strip as it is
pub none_taken : (row : ℕ) (xs : List ℕ) (a : ℕ) → xs ≡ with_jobs row (record { sample = a; deadline = a } ∷ []) xs
none_taken row xs a =
    let s : Span = record { sample = a; deadline = a } in
    same_lists xs (with_jobs row (s ∷ []) xs) (sym (length_with row xs (s ∷ [])))
    (λ n d l. sym (untaken row xs s n d (and_right (free_in xs n) (inside s n) (none_inside a n))))

-- and so do no jobs
pub no_jobs : (row : ℕ) (xs : List ℕ) → with_jobs row [] xs ≡ xs
no_jobs row xs = each_same (λ n x. x) 0 xs (λ n x. refl)
