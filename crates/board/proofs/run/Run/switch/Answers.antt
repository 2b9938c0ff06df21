use Rattle.std.proofs.Common.{sym, ap, ◌∙◌, arith}
use Rattle.std.proofs.lemmas.Result.{err_from_is_err_and}
use Rattle.readings.specs.Refusals.{content}
use Rattle.board.specs.Waits.{waiting_of}
use Rattle.board.proofs.Boards.{none_switches, switch_clear, switch_is_refused, switch_leads, switches}
use Rattle.board.proofs.Calls.{none_of}
use Rattle.board.proofs.run.Run.switch.Goals as goal

pub returns-in_err-plan-clause-promise : goal.returns-in_err-plan-clause-promise
returns-in_err-plan-clause-promise g c =
    let r = c.args.self.now in
    let free = ap waiting_of (none_of r.waiting (sym c.is_some.ensures ∙ c.if-is_some.false)) in
    let p = err_from_is_err_and c.from_residual.result c.from_residual.ensures.1 in
    rw (p.1, p.2) (switch_is_refused r c.args.list.now c.args.policy c.args.latency free (omega (arith, c.if-latency-gt-LARGEST_LATENCY.false)) (content c.in_err-plan.field-0.0) c.in_err-plan.ensures.walks)

pub returns-in_default-clause-promise : goal.returns-in_default-clause-promise
returns-in_default-clause-promise g c =
    let r = c.args.self.now in
    let free = ap waiting_of (none_of r.waiting (sym c.is_some.ensures ∙ c.if-is_some.false)) in
    let is = c.in_ok-plan.ensures in
    none_switches r c.args.list.now c.args.policy c.args.latency free (omega (arith, c.if-latency-gt-LARGEST_LATENCY.false)) c.in_ok-plan.plan
    (record { walks = is.walks; list_is = is.list; policy_is = is.policy; accepts = is.accepts }) c.in_default.ensures

pub expect-requires-clause-clear : goal.expect-requires-clause-clear
expect-requires-clause-clear g c =
    let r = c.args.self.now in
    let free = ap waiting_of (none_of r.waiting (sym c.is_some.ensures ∙ c.if-is_some.false)) in
    let is = c.in_ok-plan.ensures in
    switch_clear r c.args.list.now c.args.policy c.args.latency free (omega (arith, c.if-latency-gt-LARGEST_LATENCY.false)) c.in_ok-plan.plan
    (record { walks = is.walks; list_is = is.list; policy_is = is.policy; accepts = is.accepts }) c.in-Some.ticks c.in-Some.ensures

pub expect-requires-clause-lasts : goal.expect-requires-clause-lasts
expect-requires-clause-lasts g c =
    let r = c.args.self.now in
    let free = ap waiting_of (none_of r.waiting (sym c.is_some.ensures ∙ c.if-is_some.false)) in
    let is = c.in_ok-plan.ensures in
    switch_leads r c.args.list.now c.args.policy c.args.latency free (omega (arith, c.if-latency-gt-LARGEST_LATENCY.false)) c.in_ok-plan.plan
    (record { walks = is.walks; list_is = is.list; policy_is = is.policy; accepts = is.accepts }) c.in-Some.ticks c.in-Some.ensures

pub returns-clause-promise : goal.returns-clause-promise
returns-clause-promise g c =
    let r = c.args.self.now in
    let free = ap waiting_of (none_of r.waiting (sym c.is_some.ensures ∙ c.if-is_some.false)) in
    let is = c.in_ok-plan.ensures in
    switches r c.args.list.now c.args.policy c.args.latency free (omega (arith, c.if-latency-gt-LARGEST_LATENCY.false)) c.in_ok-plan.plan
    (record { walks = is.walks; list_is = is.list; policy_is = is.policy; accepts = is.accepts }) c.in-Some.ticks c.in-Some.ensures c.expect.new.self c.expect.ensures
