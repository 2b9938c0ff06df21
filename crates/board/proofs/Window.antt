-- The instants of a window, looked at from now on.
use Rattle.std.proofs.Common.{◌≡◌, ℕ, ◌+◌, ◌<◌, Bool, false, List, None, Decides, sym, refl, ap, ◌∙◌, subst, inl, inr, add-one, arith}
use Rattle.std.proofs.lemmas.Bool.{both_ways, cases_eq}
use Rattle.readings.specs.declared.reading.Reading.{Reading}
use Rattle.policy.specs.Course.{Answer, Course}
use Rattle.books.specs.Slots.{books_at, fault, fault_at, slot}
use Rattle.books.specs.declared.row.Row.{Row}
use Rattle.walk.specs.Crossings.{MayCross}

module _ (c : Course) (rs : List Row) (list : List Reading) (finishes : List ℕ) where
  -- k slots ahead stand this course and these rows, and at none of the instants before did the test say yes
  pub record Ahead (k : ℕ) (here : Course) (books : List Row) : Type 0 where
    pub course : (m : ℕ) → here m ≡ c (k + m)
    pub rows : books ≡ books_at c rs k
    pub none : (j : ℕ) → j < k → MayCross (books_at c rs j) list finishes → ⊥

  pub now : Ahead 0 c rs
  now = record { course = λ m. ap c (omega arith); rows = refl; none = λ j h. absurd (omega arith) }

  pub tested : (k : ℕ) (here : Course) (books : List Row) (r : Bool) → Ahead k here books → Decides r (MayCross books list finishes) → r ≡ false
      → MayCross (books_at c rs k) list finishes → ⊥
  tested k here books r a d e m = both_ways r e (d.1 (subst (λ (qs : List Row). MayCross qs list finishes) (sym a.rows) m))

  -- the answer of the course has no fault there
  pub clear : (k : ℕ) (here : Course) (books : List Row) (a : Answer) → Ahead k here books → fault_at c rs k ≡ None → a ≡ here 0 → fault a books ≡ None
  clear k here books a ahead faultless first =
      let same : a ≡ c k = first ∙ ahead.course 0 ∙ ap c (omega arith) in
      ap (λ (x : Answer). fault x books) same ∙ ap (fault (c k)) ahead.rows ∙ faultless

  -- one slot further, where the test says no
  pub onwards : (k : ℕ) (here next : Course) (books after : List Row) (a : Answer) → Ahead k here books
      → (MayCross (books_at c rs k) list finishes → ⊥) → ((m : ℕ) → next m ≡ here (m + 1)) → a ≡ here 0
      → after ≡ slot a books → Ahead (k + 1) next after
  onwards k here next books after a ahead never moved first taken =
      let same : a ≡ c k = first ∙ ahead.course 0 ∙ ap c (omega arith) in
      record {
        course = λ m. moved m ∙ ahead.course (m + 1) ∙ ap c (omega arith);
        rows = rw add-one (taken ∙ ap (λ (x : Answer). slot x books) same ∙ ap (slot (c k)) ahead.rows);
        none = λ j h m.
            elim (cases_eq j k) [
              | inl last ↦ never (subst (λ (i : ℕ). MayCross (books_at c rs i) list finishes) last m)
              | inr other ↦ ahead.none j (omega arith) m
            ];
      }
