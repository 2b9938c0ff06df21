use Rattle.std.proofs.Common.{sym, subst}
use Rattle.std.proofs.lemmas.Result.{err_from_is_err_and}
use Rattle.readings.specs.Lists.{rows_of}
use Rattle.periodic.specs.Positions.{phases_of}
use Rattle.examples.specs.Rules.{RulesGive}
use Rattle.examples.specs.declared.example.Example.{Example}
use Rattle.examples.proofs.Periods.{z_refused}
use Rattle.examples.proofs.Running.{slot_told}
use Rattle.examples.proofs.example.Example.run.Goals as goal

pub returns-in_ok-more_less_policy-in-RowThreeOfY : goal.returns-in_ok-more_less_policy-in-RowThreeOfY
returns-in_ok-more_less_policy-in-RowThreeOfY c =
    let policy = c.in_ok-more_less_policy-in-RowThreeOfY in
    subst (λ (a : Example). RulesGive a c.slot_after.result) (sym c.in-RowThreeOfY.is)
    (slot_told (rows_of c.in_ok-y.y) (phases_of policy.field-0) c.in_ok-y.ensures policy.ensures.ok
    c.slot_after.result c.slot_after.ensures.ok c.slot_after.ensures.err)

pub returns-in_err-more_less_policy-in-MoreLessOfZ : goal.returns-in_err-more_less_policy-in-MoreLessOfZ
returns-in_err-more_less_policy-in-MoreLessOfZ c =
    let refused = c.in_err-more_less_policy-in-MoreLessOfZ in
    let out = c.from_residual-in_err-more_less_policy-in-MoreLessOfZ in
    let p = err_from_is_err_and out.result out.ensures.1 in
    subst (λ (a : Example). RulesGive a out.result) (sym c.in-MoreLessOfZ.is)
    (rw (p.1, p.2) (z_refused (rows_of c.in_ok-z.z) refused.field-0.0 c.in_ok-z.ensures refused.ensures.err))
