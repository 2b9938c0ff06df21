-- A policy stepped with its books goes along its course.
use Rattle.std.specs.Prelude.{◌≡◌, ℕ, zero, suc, ◌+◌, true, List, refl}
use Rattle.std.proofs.Common.{ap, ◌∙◌, arith}
use Rattle.std.proofs.lemmas.Bool.{and_parts}
use Rattle.policy.specs.Course.{Answer, Meaning}
use Rattle.repeat.specs.Marks.{after}
use Rattle.books.specs.Slots.{books_at, fault, fault_at, slot}
use Rattle.books.specs.declared.row.Row.{Row}
use Rattle.books.proofs.Ages.{stay_equal}
use Rattle.books.proofs.Sames.{rows_from}
use Rattle.walk.specs.Steps.{walk_alike, walk_fault, walk_next}

module _ {Pos : Type 0} (kind : Meaning Pos) where
  -- the course of a position n steps on
  pub course_at : (p : Pos) (n m : ℕ) → kind.course (after kind.next n p) m ≡ kind.course p (n + m)
  course_at p zero m = ap (kind.course p) (omega arith)
  course_at p (suc n) m =
      kind.onward (after kind.next n p) m
      ∙ course_at p n (m + 1)
      ∙ ap (kind.course p) (omega arith)

  first_at : (p : Pos) (n : ℕ) → kind.course (after kind.next n p) 0 ≡ kind.course p n
  first_at p n = course_at p n 0 ∙ ap (kind.course p) (omega arith)

  -- where policy and books stand after n slots
  pub walk_at : (p : Pos) (rs : List Row) (n : ℕ)
      → after (walk_next kind) n (p, rs) ≡ (after kind.next n p, books_at (kind.course p) rs n)
  walk_at p rs zero = refl
  walk_at p rs (suc n) =
      let on = kind.next (after kind.next n p) in
      ap (walk_next kind) (walk_at p rs n)
      ∙ ap (λ (a : Answer). (on, slot a (books_at (kind.course p) rs n))) (first_at p n)

  -- the fault that they meet there is that of the course
  pub fault_is : (p : Pos) (rs : List Row) (n : ℕ)
      → walk_fault kind (after (walk_next kind) n (p, rs)) ≡ fault_at (kind.course p) rs n
  fault_is p rs n =
      ap (walk_fault kind) (walk_at p rs n)
      ∙ ap (λ (a : Answer). fault a (books_at (kind.course p) rs n)) (first_at p n)

  -- where books are equal and positions compare yes, the same faults follow, or none
  pub alike_lasts : (s t : Pos × List Row) → walk_alike kind s t ≡ true → (n : ℕ)
      → walk_fault kind (after (walk_next kind) n s) ≡ walk_fault kind (after (walk_next kind) n t)
  alike_lasts s t e n =
      let p = and_parts _ _ e in
      let rows = rows_from s.1 t.1 p.0 in
      let agree = kind.agree s.0 t.0 p.1 in
      let same = (stay_equal s.1 t.1 rows (kind.course s.0) (kind.course t.0) agree n).1 in
      let a = fault_is s.0 s.1 n in
      let b = fault_is t.0 t.1 n in
      cc
