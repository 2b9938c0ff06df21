-- A policy stepped with its books, one step at a time.
use Rattle.std.proofs.Common.{◌≡◌, ℕ, ◌+◌, List, Some, None, Ok, Err, Result, IfErr, OnOk, ap, ◌∙◌, add-one}
use Rattle.policy.specs.Course.{Meaning}
use Rattle.repeat.specs.Marks.{after}
use Rattle.books.specs.Slots.{books_at, fault_at}
use Rattle.books.specs.declared.fault.Fault.{Fault}
use Rattle.books.specs.declared.row.Row.{Row}
use Rattle.walk.specs.Steps.{walk_fault, walk_next}
use Rattle.walk.specs.StepLaws.{fault_is, walk_at}

module _ {Pos : Type 0} (kind : Meaning Pos) where
  -- a step without a fault leads to the next instant
  pub advanced : {T : Type 0} (p : Pos) (rs : List Row) (n : ℕ) (s t : Pos × List Row) (r : Result T Fault) → s ≡ after (walk_next kind) n (p, rs)
      → OnOk r (t ≡ walk_next kind s) → IfErr r (λ met. walk_fault kind s ≡ Some met) → fault_at (kind.course p) rs n ≡ None
      → t ≡ after (walk_next kind) (n + 1) (p, rs)
  advanced p rs n s t (Ok x) e moved met faultless = rw add-one (moved ∙ ap (walk_next kind) e)
  advanced p rs n s t (Err f) e moved met faultless =
      let same = fault_is kind p rs n in
      let here = ap (walk_fault kind) e in
      cc

  -- and there the books are those of the course
  pub rows_at : (p : Pos) (rs : List Row) (n : ℕ) (t : Pos × List Row) → t ≡ after (walk_next kind) n (p, rs) → t.1 ≡ books_at (kind.course p) rs n
  rows_at p rs n t e = ap (λ (x : Pos × List Row). x.1) (e ∙ walk_at kind p rs n)
