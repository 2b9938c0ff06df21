-- A row while its jobs are laid one after another.
use Rattle.std.proofs.Common.{◌≡◌, ℕ, zero, suc, ◌+◌, ◌-◌, ◌<◌, ◌≤◌, Bool, false, leb, ltb, Some, None, Ok, Err, Option, List, [], ◌∷◌, refl, sym, ap, subst, ◌∙◌, inl, inr, arith}
use Rattle.std.proofs.lemmas.Bool.{cases_Bool, le-ltb, leb-true, lt-ltb, ltb-false, cases_lt}
use Rattle.std.specs.Option.{option_map, option_map_or}
use Rattle.readings.specs.declared.reading.Reading.{Reading}
use Rattle.deferral.specs.Free.{Free, free_between, free_in, last_free}
use Rattle.deferral.specs.Laying.{Laying, first_deadline, lacks_room, last_deadline, later_jobs, lay_row, next_span, with_jobs}
use Rattle.deferral.specs.declared.span.Span.{Span}
use Rattle.planner.proofs.Least.{Tells, least_tells}
use Rattle.deferral.proofs.Counting.{between_agree, between_none}
use Rattle.deferral.proofs.Scanning.{AlikeFrom, last_before, same_last}
use Rattle.deferral.proofs.Taking.{alike_past, no_jobs, one_more}

-- a job that has room comes after the one before
pub comes_later : (free : Free) (c v : ℕ) (s : Span) → 1 ≤ c → lacks_room free c v s ≡ false → s.deadline < s.sample + v
comes_later free c v s h e =
    let a = ltb-false (free_between free s.deadline (s.sample + v)) c e in
    elim (cases_lt s.deadline (s.sample + v)) [
      | inl less ↦ less
      | inr more ↦ let n = between_none free s.deadline (s.sample + v) more in absurd (omega arith)
    ]

-- the jobs after one go by the slots past it alone
later_alike : (most : ℕ) (f g : Free) (c v limit : ℕ) (s : Span) → 1 ≤ c → AlikeFrom s.deadline f g → later_jobs most f c v limit s ≡ later_jobs most g c v limit s
later_alike zero f g c v limit s h a = refl
later_alike (suc most) f g c v limit s h a =
    let same : lacks_room f c v s ≡ lacks_room g c v s = ap (λ (n : ℕ). ltb n c) (between_agree f g s.deadline (s.sample + v) (λ n l k. a n l)) in
    elim (cases_Bool (lacks_room f c v s)) [
      | inl lacks ↦ rw (lacks, sym same ∙ lacks) refl
      | inr has ↦
          let t : Span = next_span f c v s in
          let e : t ≡ next_span g c v s = ap (λ (n : ℕ). record { sample = n; deadline = s.sample + v }) (same_last f g s.deadline (s.sample + v) c a (ltb-false (free_between f s.deadline (s.sample + v)) c has)) in
          let i : later_jobs most f c v limit t ≡ later_jobs most g c v limit t = later_alike most f g c v limit t h (λ n l. a n (let m = comes_later f c v s h has in omega arith)) in
          rw (has, sym same ∙ has, ← e, i) refl
    ]

-- what is left of a row's laying where its jobs up to one are laid
abbrev pub rest_of_row : (most row : ℕ) → Reading → (limit : ℕ) → List ℕ → Span → Laying
rest_of_row most row r limit xs s =
    option_map_or (λ js. Ok (with_jobs row js xs, last_deadline s js))
    (later_jobs most (free_in xs) r.work r.validity limit s) (Err (8, row ∷ []))

-- the same, where the one is yet to be laid with the others
abbrev one_and_rest : (most row : ℕ) → Reading → (limit : ℕ) → List ℕ → Span → Laying
one_and_rest most row r limit xs s =
    option_map_or (λ js. Ok (with_jobs row (s ∷ js) xs, last_deadline s js))
    (later_jobs most (free_in xs) r.work r.validity limit s) (Err (8, row ∷ []))

-- two functions that agree
same_map_or : {T U : Type 0} (f g : T → U) (o : Option T) (d : U) → ((x : T) → f x ≡ g x) → option_map_or f o d ≡ option_map_or g o d
same_map_or f g None d h = refl
same_map_or f g (Some x) d h = h x

-- one function after another
map_or_map : {S T U : Type 0} (f : T → U) (g : S → T) (o : Option S) (d : U) → option_map_or f (option_map g o) d ≡ option_map_or (λ x. f (g x)) o d
map_or_map f g None d = refl
map_or_map f g (Some x) d = refl

-- a row on a strip
module _ (row : ℕ) (r : Reading) (limit : ℕ) (xs : List ℕ) where
  -- a job is laid, and the others are left
  one_laid : 1 ≤ r.work → (most : ℕ) (s : Span) → one_and_rest most row r limit xs s ≡ rest_of_row most row r limit (with_jobs row (s ∷ []) xs) s
  one_laid h most s =
      let ys : List ℕ = with_jobs row (s ∷ []) xs in
      rw (later_alike most (free_in ys) (free_in xs) r.work r.validity limit s h (alike_past row xs s))
      (same_map_or _ _ (later_jobs most (free_in xs) r.work r.validity limit s) (Err (8, row ∷ [])) (λ js. ap (λ (zs : List ℕ). Ok (zs, last_deadline s js)) (sym (one_more row xs s js))))

  -- the first job is laid
  pub first_laid : 1 ≤ r.work → (s : Span) → s.sample ≡ 0 → first_deadline (free_in xs) r.work limit ≡ Some s.deadline
      → rest_of_row limit row r limit (with_jobs row (s ∷ []) xs) s ≡ lay_row row r limit xs
  first_laid h s z e =
      let same : s ≡ record { sample = 0; deadline = s.deadline } = ap (λ (n : ℕ). record { sample = n; deadline = s.deadline }) z in
      rw e (sym (one_laid h limit s) ∙ ap (λ (t : Span). one_and_rest limit row r limit xs t) same)

  -- the next deadline is past the limit
  pub ends : (most : ℕ) (s : Span) → limit < s.sample + r.validity → rest_of_row most row r limit xs s ≡ Ok (xs, s.deadline)
  ends zero s l = ap (λ (ys : List ℕ). Ok (ys, s.deadline)) (no_jobs row xs)
  ends (suc most) s l = rw (lt-ltb limit (s.sample + r.validity) l) (ap (λ (ys : List ℕ). Ok (ys, s.deadline)) (no_jobs row xs))

  -- the next job is laid
  pub next_laid : (most : ℕ) (s t : Span) → 1 ≤ r.work → s.sample + r.validity ≤ limit → lacks_room (free_in xs) r.work r.validity s ≡ false → t ≡ next_span (free_in xs) r.work r.validity s
      → rest_of_row most row r limit (with_jobs row (t ∷ []) xs) t ≡ rest_of_row (suc most) row r limit xs s
  next_laid most s t h l e is =
      let n : Span = next_span (free_in xs) r.work r.validity s in
      ap (λ (u : Span). rest_of_row most row r limit (with_jobs row (u ∷ []) xs) u) is
      ∙ (sym (one_laid h most n)
      ∙ rw (le-ltb limit (s.sample + r.validity) l, e) (sym (map_or_map _ _ (later_jobs most (free_in xs) r.work r.validity limit n) (Err (8, row ∷ [])))))

-- a row's jobs up to one are laid; `most` bounds how many are left
pub record UnderWay (row : ℕ) (r : Reading) (limit : ℕ) (old now : List ℕ) (s : Span) : Type 0 where
  pub sampled : s.sample ≤ s.deadline
  pub within : s.deadline ≤ limit
  pub most : ℕ
  pub enough : limit < most + s.deadline
  pub rest : rest_of_row most row r limit now s ≡ lay_row row r limit old

-- its first job is laid
pub begins : (row : ℕ) (r : Reading) (limit : ℕ) (old : List ℕ) (s : Span) → 1 ≤ r.work → s.sample ≡ 0 → first_deadline (free_in old) r.work limit ≡ Some s.deadline
    → UnderWay row r limit old (with_jobs row (s ∷ []) old) s
begins row r limit old s h z e =
    let test : ℕ → Bool = λ d. leb r.work (free_between (free_in old) 0 d) in
    let t : Tells test limit (Some s.deadline) = subst (Tells test limit) e (least_tells test limit) in
    let w : r.work ≤ free_between (free_in old) 0 s.deadline = leb-true r.work (free_between (free_in old) 0 s.deadline) t.0 in
    let d : 0 < s.deadline =
    (elim (cases_lt 0 s.deadline) [
      | inl less ↦ less
      | inr more ↦ let n = between_none (free_in old) 0 s.deadline more in absurd (omega arith)
    ]) in
    record {
      sampled = omega arith;
      within = t.1;
      most = limit;
      enough = omega arith;
      rest = first_laid row r limit old h s z e;
    }

module _ {row : ℕ} {r : Reading} {limit : ℕ} {old now : List ℕ} {s : Span} (u : UnderWay row r limit old now s) where
  -- the next job is laid
  pub goes_on : 1 ≤ r.work → s.sample + r.validity ≤ limit → lacks_room (free_in now) r.work r.validity s ≡ false → (t : Span) → t ≡ next_span (free_in now) r.work r.validity s
      → UnderWay row r limit old (with_jobs row (t ∷ []) now) t
  goes_on h l e t is =
      let d : t.deadline ≡ s.sample + r.validity = ap (λ (x : Span). x.deadline) is in
      let a : t.sample ≡ last_free (free_in now) (s.sample + r.validity) r.work = ap (λ (x : Span). x.sample) is in
      let b = last_before (free_in now) (s.sample + r.validity) r.work in
      let c = comes_later (free_in now) r.work r.validity s h e in
      let m : suc (u.most - 1) ≡ u.most = omega arith in
      record {
        sampled = omega arith;
        within = omega arith;
        most = u.most - 1;
        enough = omega arith;
        rest = next_laid row r limit now (u.most - 1) s t h l e is ∙ (ap (λ (k : ℕ). rest_of_row k row r limit now s) m ∙ u.rest);
      }

  -- the next deadline is past the limit
  pub stops : limit < s.sample + r.validity → lay_row row r limit old ≡ Ok (now, s.deadline)
  stops l = sym u.rest ∙ ends row r limit now u.most s l
