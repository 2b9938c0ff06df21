use Rattle.std.proofs.Common.{refl, sym, ◌∙◌, arith}
use Rattle.std.proofs.lemmas.Result.{err_from_is_err_and}
use Rattle.script.proofs.TickRuns.{all_passed, more_passed, none_passed, refused_passed, some_passed}
use Rattle.script.proofs.calls.Calls.ticks.Goals as goal

pub loop-tick-init : goal.loop-tick-init
loop-tick-init g c h t = (h, none_passed g.S.Sink.with_one (g.S.Sink.got c.args.sink.now) _ t)

pub returns-in_err-take-clause-begun : goal.returns-in_err-take-clause-begun
returns-in_err-take-clause-begun g c =
    let p = err_from_is_err_and c.from_residual.result c.from_residual.ensures.1 in
    rw p.1 (λ h t.
    let passed = c.loop-tick.invariant h t in
    some_passed g.S.Sink.with_one _ _ _ c.loop-tick.tick _ passed.1 c.args.count (g.S.Sink.got c.take.new.self) (omega arith) c.in_err-take.ensures.err)

pub returns-then-is_refused-clause-ok : goal.returns-then-is_refused-clause-ok
returns-then-is_refused-clause-ok g c h t =
    let passed = c.loop-tick.invariant h t in
    let one = c.call-reply.ensures passed.0 passed.1.tallied in (
      one.0,
      refused_passed g.S.Sink.with_one _ _ _ c.loop-tick.tick _ passed.1 (g.S.Sink.got c.take.new.self) c.call-reply.result _ c.in_ok-take.ensures.ok one.1
          c.args.count (omega arith) (sym c.if-is_refused.ensures),
    )

pub loop-tick-preserved : goal.loop-tick-preserved
loop-tick-preserved g c h t =
    let passed = c.loop-tick.invariant h t in
    let one = c.call-reply.ensures passed.0 passed.1.tallied in (
      one.0,
      more_passed g.S.Sink.with_one _ _ _ c.loop-tick.tick _ passed.1 (g.S.Sink.got c.take.new.self) c.call-reply.result _ c.in_ok-take.ensures.ok one.1
          (sym c.is_refused.ensures ∙ c.if-is_refused.false),
    )

pub returns-clause-ok : goal.returns-clause-ok
returns-clause-ok g c h t =
    let passed = c.loop-tick.invariant h t in
    (passed.0, all_passed g.S.Sink.with_one _ _ _ c.loop-tick.tick _ passed.1 c.args.count (omega arith) refl)
