use Rattle.std.proofs.Common.{refl, sym, ◌∙◌}
use Rattle.std.proofs.lemmas.Result.{on_ok_weaker}
use Rattle.script.specs.Held.{state_of}
use Rattle.script.proofs.Gives.{line_gives}
use Rattle.script.proofs.calls.Calls.line.Goals as goal

pub returns-in-None-clause-ok : goal.returns-in-None-clause-ok
returns-in-None-clause-ok g c =
    on_ok_weaker c.take.result
    (λ e h t.
    let s = state_of c.args.self.now h in
    let says = sym c.of.ensures ∙ c.in-None.is in
    (h, line_gives g.S.Sink.with_one _ _ s s _ e c.args.line.now (record { tallied = t; answered = rw says (refl, refl) })))
    c.take.ensures.ok

pub returns-in-Some-Plan-clause-ok : goal.returns-in-Some-Plan-clause-ok
returns-in-Some-Plan-clause-ok g c =
    on_ok_weaker c.take-in-Some-Plan.result
    (λ e h t.
    let s = state_of c.args.self.now h in
    let says = sym c.of.ensures ∙ c.in-Some-Plan.is in
    (h, line_gives g.S.Sink.with_one _ _ s s _ e c.args.line.now (record { tallied = t; answered = rw says (rw c.in-Some-Plan.field-0-is (refl, refl)) })))
    c.take-in-Some-Plan.ensures.ok
