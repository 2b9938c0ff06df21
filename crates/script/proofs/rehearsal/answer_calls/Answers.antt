use Rattle.std.proofs.Common.{◌∷◌, sym, refl, ◌∙◌}
use Rattle.std.proofs.lemmas.Result.{err_from_is_err_and}
use Rattle.board.specs.History.{no_history}
use Rattle.lines.specs.Left.{left}
use Rattle.script.proofs.TextRuns.{begun_reached, line_reached, none_reached, nothing_left, rest_reached}
use Rattle.script.proofs.rehearsal.answer_calls.Goals as goal

pub returns-in_err-line-clause-err : goal.returns-in_err-line-clause-err
returns-in_err-line-clause-err g c =
    let p = err_from_is_err_and c.from_residual.result c.from_residual.ensures.1 in
    let old = g.S.Sink.got c.args.sink.now in
    let lines = c.args.first.now ∷ left c.args.lines in
    let x = rw c.new-calls.ensures.state at (c.in_err-line.ensures.begun no_history c.new-calls.ensures.tallied) in
    rw p.1 (begun_reached g.S.Sink.with_one old old _ lines _ lines (none_reached g.S.Sink.with_one old _ lines) c.args.first.now (left c.args.lines) refl
    c.requires (g.S.Sink.got c.line.new.sink) x)

pub loop-line-init : goal.loop-line-init
loop-line-init g c =
    let old = g.S.Sink.got c.args.sink.now in
    let lines = c.args.first.now ∷ left c.args.lines in
    let x = rw c.new-calls.ensures.state at (c.in_ok-line.ensures.ok no_history c.new-calls.ensures.tallied) in (
      x.0,
      x.1.tallied,
      line_reached g.S.Sink.with_one old old _ lines _ lines (none_reached g.S.Sink.with_one old _ lines) c.args.first.now (left c.args.lines) refl
          c.requires (g.S.Sink.got c.line.new.sink) _ x.1,
    )

pub loop-line-preserved-in-Continue-branch-2 : goal.loop-line-preserved-in-Continue-branch-2
loop-line-preserved-in-Continue-branch-2 g c =
    let at = c.loop-line.invariant in
    let none = nothing_left (left c.next.new.self) (sym c.is_rest.ensures ∙ c.if-is_rest.true) in (
      at.0,
      at.1,
      rest_reached g.S.Sink.with_one _ (g.S.Sink.got c.loop-line.sink) _ _ _ (left c.loop-line.lines) at.2 c.in-Some.line.now (left c.next.new.self)
          c.in-Some.ensures.steps.0 none (g.S.Sink.got c.take_rest.new.sink) c.take_rest.ensures.nothing c.in_ok-take_rest.ensures.cut_short,
    )

pub loop-line-preserved : goal.loop-line-preserved
loop-line-preserved g c =
    let at = c.loop-line.invariant in
    let x = c.in_ok-line-2.ensures.ok at.0 at.1 in (
      x.0,
      x.1.tallied,
      line_reached g.S.Sink.with_one _ (g.S.Sink.got c.loop-line.sink) _ _ _ (left c.loop-line.lines) at.2 c.in-Some.line.now (left c.next.new.self)
          c.in-Some.ensures.steps.0 (sym c.is_rest.ensures ∙ c.if-is_rest.false) (g.S.Sink.got c.line-else-is_rest.new.sink) _ x.1,
    )

pub returns-in_err-line-2-clause-err : goal.returns-in_err-line-2-clause-err
returns-in_err-line-2-clause-err g c =
    let p = err_from_is_err_and c.from_residual-in_err-line-2.result c.from_residual-in_err-line-2.ensures.1 in
    let at = c.loop-line.invariant in
    rw p.1 (begun_reached g.S.Sink.with_one _ (g.S.Sink.got c.loop-line.sink) _ _ _ (left c.loop-line.lines) at.2 c.in-Some.line.now (left c.next.new.self)
    c.in-Some.ensures.steps.0 (sym c.is_rest.ensures ∙ c.if-is_rest.false) (g.S.Sink.got c.line-else-is_rest.new.sink) (c.in_err-line-2.ensures.begun at.0 at.1))
