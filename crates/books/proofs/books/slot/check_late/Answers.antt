use Rattle.std.proofs.Common.{length}
use Rattle.std.proofs.lemmas.Result.{err_from_is_err_and}
use Rattle.books.specs.Crossings.{late_fault}
use Rattle.readings.proofs.Firsts.{first_all, first_found, first_more}
use Rattle.books.proofs.books.slot.check_late.Goals as goal

pub returns-in_err-check : goal.returns-in_err-check
returns-in_err-check c =
    let rs = c.args.rows.now in
    let p = err_from_is_err_and c.from_residual.result c.from_residual.ensures.1 in
    rw (p.1, p.2) (first_found (late_fault rs) (length rs) c.loop-k.k c.in_err-check.field-0.0 c.loop-k-test.true c.loop-k.invariant c.in_err-check.ensures)

pub loop-k-preserved : goal.loop-k-preserved
loop-k-preserved c = first_more (late_fault c.args.rows.now) (length c.args.rows.now) c.loop-k.k c.loop-k-test.true c.loop-k.invariant c.in_ok-check.ensures

pub returns : goal.returns
returns c = first_all (late_fault c.args.rows.now) (length c.args.rows.now) c.loop-k.k c.loop-k-test.false c.loop-k.invariant
