-- The promise lasts: a tick keeps it, and so does a crossing that is to come to steady books.
use Rattle.std.proofs.Common.{◌≡◌, ℕ, ◌+◌, ◌-◌, eqb, List, length, get_or, Some, None, Option, sym, refl, map, ap, ◌∙◌, subst, inl, inr, arith}
use Rattle.std.proofs.lemmas.Bool.{cases_Bool, eqb-false, eqb-true}
use Rattle.policy.specs.Course.{Course}
use Rattle.readings.specs.Firsts.{first_of}
use Rattle.readings.specs.Ranges.{WellMade}
use Rattle.readings.specs.declared.reading.Reading.{Reading}
use Rattle.readings.proofs.Firsts.{first_none}
use Rattle.books.specs.Crossings.{crossed, crossing_fault, late_fault}
use Rattle.books.specs.Fresh.{Fresh}
use Rattle.books.specs.Lookups.{Idle}
use Rattle.books.specs.Rows.{blank_row, come_on}
use Rattle.books.specs.Slots.{books_at, slot}
use Rattle.books.specs.declared.row.Row.{Row}
use Rattle.books.proofs.Valids.{valid_not_stale}
use Rattle.walk.specs.Acceptance.{Accepts}
use Rattle.board.specs.Lasting.{LastingRun, Leads, Steady}
use Rattle.board.specs.Log.{Crossing, Running, nearer, from_next, tick_ends, ticked, to_come}
use Rattle.board.proofs.Steadying.{begins_steady, books_on, steady_on}

-- nothing waits
none_waits : {A : Type 0} (w : A) {B : Type 0} → None ≡ Some w → B
none_waits w e = let never : ⊥ = cc in absurd never

-- new books for an accepted list last
pub begun : (list : List Reading) (c : Course) (rs : List Row) (finishes : List ℕ) → WellMade list → rs ≡ map come_on list → Accepts c (map come_on list) finishes
    → LastingRun (record { rows = rs; course = c; waiting = None })
begun list c rs finishes law e accepts =
    record { steady = subst (Steady c) (sym e) (begins_steady list c finishes law accepts); waits = λ w z. none_waits w z }

-- a crossing that is to come to steady books, at an instant without an open job, happens now or waits well
pub switch_lasts : (g : Running) (w : Crossing) → Steady g.course g.rows → Idle (books_at g.course g.rows w.ticks) → Steady w.course (crossed (books_at g.course g.rows w.ticks) w.list)
    → LastingRun (to_come w g)
switch_lasts g w s idle to =
    elim (cases_Bool (eqb w.ticks 0)) [
      | inl t ↦
          rw t (record {
            steady = subst (λ (n : ℕ). Steady w.course (crossed (books_at g.course g.rows n) w.list)) (eqb-true w.ticks 0 t) to;
            waits = λ v e. none_waits v e;
          })
      | inr f ↦
          let z = eqb-false w.ticks 0 f in
          let leads : Leads g.course g.rows w = record { some = omega arith; idle = idle; steady = to } in
          rw f (record {
            steady = s;
            waits = λ v e. let same : w ≡ v = cc in subst (Leads g.course g.rows) same leads;
          })
    ]

-- the end of a tick
ends : (c : Course) (rs : List Row) (o : Option Crossing) → Steady c rs → ((w : Crossing) → o ≡ Some w → Leads c rs w)
    → LastingRun (tick_ends o (record { rows = slot (c 0) rs; course = from_next c; waiting = o }))
ends c rs None s leads = record { steady = steady_on c rs s; waits = λ v e. none_waits v e }
ends c rs (Some w) s leads =
    let l = leads w refl in
    let p = l.some in
    let n : w.ticks - 1 + 1 ≡ w.ticks = omega arith in
    let e : books_at c rs w.ticks ≡ books_at (from_next c) (slot (c 0) rs) (w.ticks - 1) = sym (books_on c rs (w.ticks - 1) ∙ ap (books_at c rs) n) in
    switch_lasts (record { rows = slot (c 0) rs; course = from_next c; waiting = Some w }) (nearer w) (steady_on c rs s) (subst Idle e l.idle)
    (subst (λ (bs : List Row). Steady w.course (crossed bs w.list)) e l.steady)

pub tick_lasts : (g : Running) → LastingRun g → LastingRun (ticked g)
tick_lasts g l = ends g.course g.rows g.waiting l.steady l.waits

-- no row of fresh books is late
fresh_clear : (rs : List Row) → Fresh rs → first_of (late_fault rs) 0 (length rs) ≡ None
fresh_clear rs f =
    sym (first_none (late_fault rs) 0 (length rs) (λ k h.
    let e = valid_not_stale (get_or rs k blank_row) (f.ages k blank_row (omega arith)) in
    rw e))

-- a crossing that leads to steady books leaves no row stale
pub leads_well : (c : Course) (rs : List Row) (n : ℕ) (w : Crossing) → Steady w.course (crossed (books_at c rs n) w.list) → crossing_fault (books_at c rs n) w.list ≡ None
leads_well c rs n w s = fresh_clear (crossed (books_at c rs n) w.list) s.fresh

-- nor does one that comes at the end of a tick
pub ends_well : (g : Running) → LastingRun g → (w : Crossing) → g.waiting ≡ Some w → (nearer w).ticks ≡ 0 → crossing_fault (slot (g.course 0) g.rows) w.list ≡ None
ends_well g l w e z =
    let leads = l.waits w e in
    let p = leads.some in
    let one : w.ticks ≡ 1 = omega arith in
    subst (λ (n : ℕ). crossing_fault (books_at g.course g.rows n) w.list ≡ None) one (leads_well g.course g.rows w.ticks w leads.steady)
