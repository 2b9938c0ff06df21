use Rattle.std.proofs.Common.{ℕ, List, arith, refl, sym, ap, ◌∙◌, subst, inl, inr}
use Rattle.std.proofs.lemmas.Bool.{cases_eq}
use Rattle.policy.specs.Policies.{course_of}
use Rattle.books.specs.Held.{rows_of}
use Rattle.books.specs.Slots.{books_at}
use Rattle.books.specs.declared.row.Row.{Row}
use Rattle.readings.specs.Lists.{rows_of as readings_of}
use Rattle.walk.specs.Crossings.{MayCross}
use Rattle.walk.specs.Plans.{finishes_of, list_of}
use Rattle.board.proofs.Window.{clear, onwards, tested}
use Rattle.board.proofs.run.Run.first_instant.Goals as goal
use Rattle.board.proofs.run.Run.first_instant.Goals.{else-loop-ticks-test, then-loop-ticks-test+else-may_cross+else-ticks-latency}

pub returns-then-may_cross : goal.returns-then-may_cross
returns-then-may_cross g c =
    let ahead = c.loop-ticks.invariant in (
      c.loop-ticks-test.true,
      subst (λ (rs : List Row). MayCross rs (readings_of (list_of c.args.plan.now)) (finishes_of c.args.plan.now)) ahead.rows (c.may_cross.ensures.test.0 c.if-may_cross.true),
      ahead.none,
    )

pub pass_slot-requires : goal.pass_slot-requires
pass_slot-requires g c =
    let r = c.args.self.now in
    clear (course_of g.P.Policy r.policy) (rows_of r.books) (readings_of (list_of c.args.plan.now)) (finishes_of c.args.plan.now)
    c.loop-ticks.ticks _ _ _ c.loop-ticks.invariant (r.lasting.steady.faultless c.loop-ticks.ticks) refl

pub loop-ticks-preserved : goal.loop-ticks-preserved
loop-ticks-preserved g c =
    let ahead = c.loop-ticks.invariant in
    let k = c.loop-ticks.ticks in
    let course = course_of g.P.Policy c.args.self.now.policy in
    let books = rows_of c.args.self.now.books in
    let list = readings_of (list_of c.args.plan.now) in
    let finishes = finishes_of c.args.plan.now in
    onwards course books list finishes k _ _ _ _ _ ahead
    (tested course books list finishes k _ _ c.may_cross.result ahead c.may_cross.ensures.test c.if-may_cross.false)
    (λ m. ap (λ p. g.P.Policy.meaning.course p m) c.pass_slot.ensures.policy ∙ g.P.Policy.meaning.onward (g.P.Policy.position c.loop-ticks.policy) m) refl c.pass_slot.ensures.books

pub returns : goal.returns
returns g c =
    let ahead = c.loop-ticks.invariant in
    let course = course_of g.P.Policy c.args.self.now.policy in
    let books = rows_of c.args.self.now.books in
    let list = readings_of (list_of c.args.plan.now) in
    let finishes = finishes_of c.args.plan.now in
    elim c.loop-ticks-test.branch [
      | else-loop-ticks-test w ↦ λ k h. ahead.none k (omega (arith, w.loop-ticks-test.false))
      | then-loop-ticks-test+else-may_cross+else-ticks-latency w ↦ λ k h.
          elim (cases_eq k c.loop-ticks.ticks) [
            | inl last ↦ subst (λ (n : ℕ). MayCross (books_at course books n) list finishes → ⊥) (sym last)
                (tested course books list finishes c.loop-ticks.ticks _ _ w.may_cross.result ahead w.may_cross.ensures.test w.if-may_cross.false)
            | inr other ↦ ahead.none k (omega arith)
          ]
    ]
