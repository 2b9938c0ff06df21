-- A tick, put together from a slot, and a crossing that is a tick nearer or happens.
use Rattle.std.proofs.Common.{◌≡◌, ◌↔◌, IsTrue, is_some, Bool, true, false, eqb, List, Some, None, Option, option_map, refl, ap, ◌∙◌, subst, sym}
use Rattle.std.proofs.lemmas.Bool.{both_ways, eq-eqb}
use Rattle.policy.specs.Course.{Course, Meaning}
use Rattle.books.specs.Crossings.{crossed, crossing_fault}
use Rattle.books.specs.Slots.{slot}
use Rattle.books.specs.declared.row.Row.{Row}
use Rattle.board.specs.Answers.{crosses}
use Rattle.board.specs.Lasting.{LastingRun}
use Rattle.board.specs.Log.{Crossing, Running, from_next, nearer, tick_ends, ticked}
use Rattle.board.proofs.Lasting.{ends_well}

module _ (rows : List Row) (course : Course) where
  abbrev run : Option Crossing → Running
  run o = record { rows = rows; course = course; waiting = o }

  -- the end of a tick without a crossing
  goes_on : (o : Option Crossing) → crosses o ≡ false → run (option_map nearer o) ≡ tick_ends o (run o)
  goes_on None e = refl
  goes_on (Some w) e = rw e refl

  abbrev over : Crossing → Running
  over x = record { rows = crossed rows x.list; course = x.course; waiting = None }

  -- and with one
  crosses_over : (o : Option Crossing) (w : Crossing) → option_map nearer o ≡ Some w → w.ticks ≡ 0
      → over w ≡ tick_ends o (run o)
  crosses_over None w e z = let never : ⊥ = cc in absurd never
  crosses_over (Some v) w e z =
      let same : nearer v ≡ w = cc in
      let now : eqb (nearer v).ticks 0 ≡ true = ap (λ (x : Crossing). eqb x.ticks 0) same ∙ eq-eqb w.ticks 0 z in
      rw now (ap over (sym same))

module _ (g : Running) where
  pub tick_goes_on : (rows : List Row) (course : Course) (o : Option Crossing) → rows ≡ slot (g.course 0) g.rows → course ≡ from_next g.course
      → o ≡ option_map nearer g.waiting → crosses g.waiting ≡ false → record { rows = rows; course = course; waiting = o } ≡ ticked g
  tick_goes_on rows course o e f h n =
      let there = goes_on (slot (g.course 0) g.rows) (from_next g.course) g.waiting n in cc

  -- with a crossing to w, which has no tick left
  module _ (w : Crossing) (e : option_map nearer g.waiting ≡ Some w) (z : w.ticks ≡ 0) where
    pub tick_crosses : (rows new : List Row) (course : Course) (o : Option Crossing) → rows ≡ slot (g.course 0) g.rows → new ≡ crossed rows w.list → course ≡ w.course → o ≡ None
        → record { rows = new; course = course; waiting = o } ≡ ticked g
    tick_crosses rows new course o s n c h =
        let there = crosses_over (slot (g.course 0) g.rows) (from_next g.course) g.waiting w e z in
        let books : new ≡ crossed (slot (g.course 0) g.rows) w.list = n ∙ ap (λ (rs : List Row). crossed rs w.list) s in
        cc

    -- no row comes over stale
    pub tick_clear : LastingRun g → crossing_fault (slot (g.course 0) g.rows) w.list ≡ None
    tick_clear l = clear g.waiting refl e where
      clear : (o : Option Crossing) → g.waiting ≡ o → option_map nearer o ≡ Some w → crossing_fault (slot (g.course 0) g.rows) w.list ≡ None
      clear None is f = let never : ⊥ = cc in absurd never
      clear (Some v) is f =
          let same : nearer v ≡ w = cc in
          let none : (nearer v).ticks ≡ 0 = ap (λ (x : Crossing). x.ticks) same ∙ z in
          subst (λ (x : Crossing). crossing_fault (slot (g.course 0) g.rows) x.list ≡ None) same (ends_well g l v is none)

-- no plan crosses in, so none was to
pub not_due : {A : Type 0} (o : Option A) (b : Bool) → (IsTrue (is_some o) ↔ IsTrue b) → o ≡ None → b ≡ false
not_due o false d e = refl
not_due o true d e = absurd (both_ways (is_some o) (ap is_some e) (d.1 refl))

-- a step moves the course on by one
pub moved : {Pos : Type 0} (meaning : Meaning Pos) (p q : Pos) → q ≡ meaning.next p → meaning.course q ≡ from_next (meaning.course p)
moved meaning p q e = ap meaning.course e ∙ (λ i n. meaning.onward p n i)
