use Rattle.std.proofs.Common.{◌≡◌, ℕ, ◌+◌, ◌<◌, IsSome, None, Some, length, get_or, take, ap, ◌∙◌, subst, arith}
use Rattle.std.proofs.lemmas.List.{get_or-take, length-map, length-take-le}
use Rattle.std.proofs.lemmas.List.Elements.{All-from_get_or}
use Rattle.books.specs.Fresh.{Fresh}
use Rattle.books.specs.Held.{rows_of}
use Rattle.books.specs.Slots.{books_at}
use Rattle.books.proofs.Held.{held as held_fresh}
use Rattle.books.proofs.RowRuns.{books_length}
use Rattle.rows.specs.Held.{rows_of as held}
use Rattle.walk.specs.Finishes.{FirstFinish}
use Rattle.walk.proofs.Finishing.{FinishBy, finish_at, finish_by_4095, finishes_by_next}
use Rattle.walk.proofs.Walking.{advanced, rows_at}
use Rattle.walk.proofs.walker.Walker.first_finishes.Goals as goal
use Rattle.walk.proofs.walker.Walker.first_finishes.Goals.{else-loop-slot-test, then-loop-slot-test+then-note_all}

pub loop-slot-preserved : goal.loop-slot-preserved
loop-slot-preserved g c =
    let kind = g.P.Policy.meaning in
    let p = g.P.Policy.position c.args.self.now.policy in
    let rs = rows_of c.args.self.now.books in
    let n = c.loop-slot.slot in
    let stands = advanced kind p rs n _ _ c.step.result c.loop-slot.invariant.stands c.step.ensures.moved c.step.ensures.met (c.requires.faultless n) in
    let rows = rows_at kind p rs (n + 1) _ stands in
    record {
      stands = stands;
      finishes = finishes_by_next (kind.course p) rs n _ _ c.note_all.new.finishes (c.rows.ensures.value ∙ rows) c.loop-slot.invariant.finishes c.note_all.ensures.each;
    }

pub instants_of-requires-clause-all : goal.instants_of-requires-clause-all
instants_of-requires-clause-all g c =
    let kind = g.P.Policy.meaning in
    let p = g.P.Policy.position c.args.self.now.policy in
    let rs = rows_of c.args.self.now.books in
    let found = c.loop-slot-test.finishes in
    let count = ap length c.rows-2.ensures.value in
    let each : (k : ℕ) → k < length rs → IsSome (get_or found k None) = λ k h.
    elim c.loop-slot-test.branch [
      | else-loop-slot-test w ↦
          let last : c.loop-slot.slot ≡ 4095 = omega arith in
          let rows = rows_at kind p rs c.loop-slot.slot _ c.loop-slot.invariant.stands in
          let fresh = subst Fresh (rows ∙ ap (books_at (kind.course p) rs) last) (held_fresh c.loop-slot.walker.books) in
          let by' = rw last at (c.loop-slot.invariant.finishes k h) in
          rw w.finishes-is (finish_by_4095 (kind.course p) rs c.requires.faultless c.requires.ages fresh k _ h by')
      | then-loop-slot-test+then-note_all w ↦
          let stands = advanced kind p rs c.loop-slot.slot _ _ w.step.result c.loop-slot.invariant.stands w.step.ensures.moved w.step.ensures.met (c.requires.faultless c.loop-slot.slot) in
          let rows = ap length (w.rows.ensures.value ∙ rows_at kind p rs (c.loop-slot.slot + 1) _ stands) in
          let same = books_length (kind.course p) rs (c.loop-slot.slot + 1) in
          let all = rw w.if-note_all.true at w.note_all.ensures.all in
          rw w.finishes-is (all k (omega arith))
    ] in
    All-from_get_or IsSome (take (length c.rows-2.result.now) found) None (λ k h.
    let few = length-take-le (length c.rows-2.result.now) found (let a = c.rows-2.array_long in let b = c.rows-2.ensures.law.few in omega arith) in
    rw (get_or-take (length c.rows-2.result.now) found k None (omega arith)) (each k (omega arith)))

pub returns-clause-each : goal.returns-clause-each
returns-clause-each g c k h =
    let kind = g.P.Policy.meaning in
    let p = g.P.Policy.position c.args.self.now.policy in
    let rs = rows_of c.args.self.now.books in
    let found = c.loop-slot-test.finishes in
    let count = ap length c.rows-2.ensures.value in
    let few = length-take-le (length c.rows-2.result.now) found (let a = c.rows-2.array_long in let b = c.rows-2.ensures.law.few in omega arith) in
    let some = ap length c.instants_of.ensures in
    let as_many = length-map (held c.instants_of.result) Some in
    let at : get_or (take (length c.rows-2.result.now) found) k None ≡ get_or found k None = get_or-take (length c.rows-2.result.now) found k None (omega arith) in
    let first : (n : ℕ) → FinishBy (kind.course p) rs k n (get_or found k None) → FirstFinish (kind.course p) rs k (get_or (held c.instants_of.result) k 0) = λ n by'.
    finish_at (kind.course p) rs n (held c.instants_of.result) _ c.instants_of.ensures k (omega arith) (rw at by') in
    elim c.loop-slot-test.branch [
      | else-loop-slot-test w ↦ first c.loop-slot.slot (rw w.finishes-is (c.loop-slot.invariant.finishes k h))
      | then-loop-slot-test+then-note_all w ↦
          let n = c.loop-slot.slot in
          let stands = advanced kind p rs n _ _ w.step.result c.loop-slot.invariant.stands w.step.ensures.moved w.step.ensures.met (c.requires.faultless n) in
          let rows = rows_at kind p rs (n + 1) _ stands in
          first (n + 1) (rw w.finishes-is (finishes_by_next (kind.course p) rs n _ _ w.note_all.new.finishes (w.rows.ensures.value ∙ rows) c.loop-slot.invariant.finishes w.note_all.ensures.each k h))
    ]
