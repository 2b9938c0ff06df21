use Rattle.std.proofs.Common.{refl, sym, ap, ◌∙◌}
use Rattle.readings.specs.Refusals.{refusal_of}
use Rattle.script.specs.Held.{drafts_state}
use Rattle.script.proofs.Phases.{call_met}
use Rattle.script.proofs.drafts.Drafts.reply.Goals as goal

pub returns-in-Err-clause-answered : goal.returns-in-Err-clause-answered
returns-in-Err-clause-answered c =
    let says = sym c.of.ensures ∙ c.in-Some-Call.is in
    let met = call_met _ (drafts_state c.args.self.now) _ refl c.in-Some-Call.call (sym c.check.ensures ∙ ap refusal_of c.in-Err.is) in
    record { tallied = tt; answered = rw says (rw c.in-Some-Call.field-0-is met) }
