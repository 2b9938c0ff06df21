use Rattle.std.proofs.Common.{sym, ◌∙◌}
use Rattle.std.proofs.lemmas.Result.{err_from_is_err_and}
use Rattle.readings.specs.Lists.{rows_of as readings_of}
use Rattle.readings.specs.Refusals.{content}
use Rattle.board.proofs.Boards.{start_is_late, start_is_refused, starts}
use Rattle.board.proofs.Calls.{none_of}
use Rattle.board.proofs.board.Board.start.Goals as goal

pub returns-then-is_some-clause-promise : goal.returns-then-is_some-clause-promise
returns-then-is_some-clause-promise g c =
    start_is_late c.args.self.now.run (readings_of c.args.list.now) (g.P.Policy.position c.args.policy) (sym c.is_some.ensures ∙ c.if-is_some.true)

pub returns-in_err-plan-clause-promise : goal.returns-in_err-plan-clause-promise
returns-in_err-plan-clause-promise g c =
    let p = err_from_is_err_and c.from_residual.result c.from_residual.ensures.1 in
    rw (p.1, p.2) (start_is_refused c.args.self.now.run c.args.list.now c.args.policy (content c.in_err-plan.field-0.0) (none_of c.args.self.now.run (sym c.is_some.ensures ∙ c.if-is_some.false)) c.in_err-plan.ensures.walks)

pub returns-clause-promise : goal.returns-clause-promise
returns-clause-promise g c =
    let is = c.in_ok-plan.ensures in
    starts c.args.self.now.run c.args.list.now c.args.policy c.in_ok-plan.plan c.new.result c.started_of-started.result
    (none_of c.args.self.now.run (sym c.is_some.ensures ∙ c.if-is_some.false))
    (record { walks = is.walks; list_is = is.list; policy_is = is.policy; accepts = is.accepts }) c.started_of-started.ensures c.new.ensures
