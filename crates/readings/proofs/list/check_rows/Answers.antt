use Rattle.std.proofs.Common.{length}
use Rattle.std.proofs.lemmas.Result.{err_from_is_err_and}
use Rattle.readings.specs.Proposals.{refusal_at}
use Rattle.readings.specs.Refusals.{content}
use Rattle.readings.proofs.Firsts.{first_all, first_found, first_more}
use Rattle.readings.proofs.list.check_rows.Goals as goal

pub loop-k-preserved : goal.loop-k-preserved
loop-k-preserved c =
    let ps = c.args.rows.now in
    first_more (refusal_at ps) (length ps) c.loop-k.k c.loop-k-test.true c.loop-k.invariant c.in_ok-check_row.ensures

pub returns-in_err-check_row : goal.returns-in_err-check_row
returns-in_err-check_row c =
    let ps = c.args.rows.now in
    let p = err_from_is_err_and c.from_residual.result c.from_residual.ensures.1 in
    rw (p.1, p.2) (first_found (refusal_at ps) (length ps) c.loop-k.k (content c.in_err-check_row.field-0.0) c.loop-k-test.true c.loop-k.invariant c.in_err-check_row.ensures)

pub returns : goal.returns
returns c =
    let ps = c.args.rows.now in
    first_all (refusal_at ps) (length ps) c.loop-k.k c.loop-k-test.false c.loop-k.invariant
