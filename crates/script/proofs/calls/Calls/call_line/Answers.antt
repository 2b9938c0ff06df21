use Rattle.std.proofs.Common.{refl, sym}
use Rattle.std.proofs.lemmas.Result.{on_ok_weaker}
use Rattle.script.specs.Held.{state_of}
use Rattle.script.proofs.Gives.{call_gives, misplaced_gives}
use Rattle.script.proofs.calls.Calls.call_line.Goals as goal

pub returns-then-is_writing-clause-ok : goal.returns-then-is_writing-clause-ok
returns-then-is_writing-clause-ok g c =
    on_ok_weaker c.take.result
    (λ e h t. (h, misplaced_gives g.S.Sink.with_one _ _ (state_of c.args.self.now h) _ _ e c.args.line t (sym c.if-is_writing.ensures) (refl, refl)))
    c.take.ensures.ok

pub returns-in-Start-clause-ok : goal.returns-in-Start-clause-ok
returns-in-Start-clause-ok g c =
    on_ok_weaker c.take-in-Start.result
    (λ e h t. let one = c.start.ensures h t in (one.0, call_gives g.S.Sink.with_one _ _ _ _ _ e c.args.line (sym c.if-is_writing.ensures) (rw c.in-Start.is one.1)))
    c.take-in-Start.ensures.ok

pub returns-in-Switch-clause-ok : goal.returns-in-Switch-clause-ok
returns-in-Switch-clause-ok g c =
    on_ok_weaker c.take-in-Switch.result
    (λ e h t. let one = c.switch.ensures h t in (one.0, call_gives g.S.Sink.with_one _ _ _ _ _ e c.args.line (sym c.if-is_writing.ensures) (rw c.in-Switch.is one.1)))
    c.take-in-Switch.ensures.ok

pub returns-in-Show-clause-ok : goal.returns-in-Show-clause-ok
returns-in-Show-clause-ok g c =
    on_ok_weaker c.take-in-Show.result
    (λ e h t. let one = c.call.ensures h t in (one.0, call_gives g.S.Sink.with_one _ _ _ _ _ e c.args.line (sym c.if-is_writing.ensures) (rw c.in-Show.is one.1)))
    c.take-in-Show.ensures.ok

pub returns-in-Stop-clause-ok : goal.returns-in-Stop-clause-ok
returns-in-Stop-clause-ok g c =
    on_ok_weaker c.take-in-Stop.result
    (λ e h t. let one = c.call-in-Stop.ensures h t in (one.0, call_gives g.S.Sink.with_one _ _ _ _ _ e c.args.line (sym c.if-is_writing.ensures) (rw c.in-Stop.is one.1)))
    c.take-in-Stop.ensures.ok
