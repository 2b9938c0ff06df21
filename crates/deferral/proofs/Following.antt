-- The jobs of a row as a function, and what the jobs that are laid after one tell of it.
use Rattle.std.proofs.Common.{◌≡◌, ℕ, zero, suc, ◌+◌, ◌<◌, ◌≤◌, true, false, Some, None, Option, List, [], ◌∷◌, option_map, refl, subst, inl, inr, arith}
use Rattle.std.specs.Fn.{iterate}
use Rattle.std.proofs.lemmas.Bool.{cases_Bool, cases_lt, le-ltb, lt-ltb, ltb-false, or_cases, or_left, or_right}
use Rattle.std.specs.List.{list_any}
use Rattle.deferral.proofs.Counting.{between_part, earliest_from, last_free_is}
use Rattle.deferral.proofs.Rules.{next_earliest}
use Rattle.deferral.specs.Free.{Free, free_between, last_free}
use Rattle.deferral.specs.Jobs.{NextJob, takes}
use Rattle.deferral.specs.Laying.{lacks_room, last_deadline, later_jobs, next_span}
use Rattle.deferral.specs.declared.span.Span.{Span}

-- what holds of 0, and of the number after each below m, holds of every number up to m
up_to : (P : ℕ → Type 0) (m : ℕ) → P 0 → ((j : ℕ) → j < m → P (suc j)) → (j : ℕ) → j < suc m → P j
up_to P m first others zero h = first
up_to P m first others (suc j) h = others j (omega arith)

-- what a mapped option holds is mapped from what the option holds
mapped : {A B : Type 0} (g : A → B) (o : Option A) (b : B) → option_map g o ≡ Some b → (a : A) × (o ≡ Some a) × (g a ≡ b)
mapped g None b e = absurd (cc)
mapped g (Some a) b e = (a, refl, cc)

module _ (f : Free) (c v : ℕ) where
  -- the jobs of a row, counted from one of them
  abbrev pub span_from : Span → ℕ → Span
  span_from s j = iterate (next_span f c v) j s

  module _ (some : 0 < c) where
    -- with room for it, the next span is that of a next job
    pub next_is : (s : Span) → lacks_room f c v s ≡ false → NextJob f c v s (next_span f c v s)
    next_is s h =
        let d : ℕ = s.sample + v in
        let room : c ≤ free_between f s.deadline d = ltb-false _ _ h in
        let all = between_part f 0 s.deadline d d (omega arith) (omega arith) in
        let earliest = last_free_is f d c some (omega arith) in
        record {
          deadline = refl;
          sample_is_free = earliest.free;
          count = earliest.count;
          later = earliest_from f c d (last_free f d c) s.deadline earliest room;
        }

    module _ (limit : ℕ) where
      -- the jobs js after job s are all that come up to the limit
      pub record Follow (s : Span) (js : List Span) : Type 0 where
        pub last : ℕ
        pub next : (j : ℕ) → j < last → NextJob f c v (span_from s j) (span_from s (suc j))
        pub within : (j : ℕ) → j ≤ last → (span_from s j).deadline ≤ limit
        pub over : limit < (span_from s last).sample + v
        pub ends : last_deadline s js ≡ (span_from s last).deadline
        pub one_takes : (n : ℕ) → list_any (λ t. takes f t n) (s ∷ js) ≡ true → (j : ℕ) × (j ≤ last) × (takes f (span_from s j) n ≡ true)
        pub any_takes : (n j : ℕ) → j ≤ last → takes f (span_from s j) n ≡ true → list_any (λ t. takes f t n) (s ∷ js) ≡ true

      -- no job comes after one whose next deadline is past the limit
      follow_none : (s : Span) → s.deadline ≤ limit → limit < s.sample + v → Follow s []
      follow_none s h k =
          record {
            last = 0;
            next = λ j l. absurd (omega arith);
            within = λ j l. let z : j ≡ 0 = omega arith in rw z h;
            over = k;
            ends = refl;
            one_takes = λ n t. elim (or_cases (takes f s n) false t) [ inl first ↦ (0, omega arith, first) | inr none ↦ absurd (cc) ];
            any_takes = λ n j l t. let z : j ≡ 0 = omega arith in or_left _ _ (rw z at t);
          }

      -- a next job, and the jobs that follow it
      follow_one : (s : Span) (js : List Span) → s.deadline ≤ limit → NextJob f c v s (next_span f c v s) → Follow (next_span f c v s) js → Follow s (next_span f c v s ∷ js)
      follow_one s js h x w =
          let to : Span = next_span f c v s in
          record {
            last = suc w.last;
            next = up_to (λ j. NextJob f c v (span_from s j) (span_from s (suc j))) w.last x w.next;
            within = λ j l. up_to (λ j. (span_from s j).deadline ≤ limit) (suc w.last) h (λ j l. w.within j (omega arith)) j (omega arith);
            over = w.over;
            ends = w.ends;
            one_takes = λ n t.
                elim (or_cases (takes f s n) (list_any (λ t. takes f t n) (to ∷ js)) t) [
                  | inl first ↦ (0, omega arith, first)
                  | inr others ↦ let r = w.one_takes n others in (suc r.0, omega (arith, r.1), r.2)
                ];
            any_takes = λ n j l.
                up_to (λ j. takes f (span_from s j) n ≡ true → list_any (λ t. takes f t n) (s ∷ to ∷ js) ≡ true) (suc w.last)
                (or_left _ _) (λ j l t. or_right _ _ (w.any_takes n j (omega arith) t)) j (omega arith);
          }

      -- so the later jobs follow, with a bound for their number that is large enough
      pub follows : (most : ℕ) (s : Span) (js : List Span) → s.deadline ≤ limit → limit < most + s.deadline → later_jobs most f c v limit s ≡ Some js → Follow s js
      follows zero s js h k e = absurd (omega arith)
      follows (suc most) s js h k e =
          let d : ℕ = s.sample + v in
          let others : Option (List Span) = later_jobs most f c v limit (next_span f c v s) in
          elim (cases_lt limit d) [
            | inl past ↦
                let none : [] ≡ js = let is = lt-ltb limit d past in cc in
                subst (Follow s) none (follow_none s h past)
            | inr more ↦
                elim (cases_Bool (lacks_room f c v s)) [
                  | inl lacks ↦ let is = le-ltb limit d more in absurd (cc)
                  | inr room ↦
                      let is = le-ltb limit d more in
                      let x = next_is s room in
                      let m = mapped (λ (rest : List Span). next_span f c v s ∷ rest) others js (cc) in
                      let before = (next_earliest f c v s (next_span f c v s) some x).before in
                      let after = x.later in
                      subst (Follow s) m.2 (follow_one s m.0 h x (follows most (next_span f c v s) m.0 more (omega arith) m.1))
                ]
          ]
