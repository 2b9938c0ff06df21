use Rattle.std.proofs.Common.{◌<◌, length, sym, ap, ◌∙◌, subst, arith, length-set}
use Rattle.std.proofs.lemmas.Result.{err_from_is_err_and}
use Rattle.readings.specs.Lists.{rows_of as readings_of}
use Rattle.readings.specs.Ranges.{WellMade, blank}
use Rattle.readings.specs.declared.reading.Reading.{Reading}
use Rattle.books.specs.Crossings.{carry, crossed}
use Rattle.books.specs.Fresh.{Fresh}
use Rattle.books.specs.Held.{rows_of}
use Rattle.books.specs.Lookups.{row_of}
use Rattle.books.specs.declared.row.Row.{Row}
use Rattle.books.proofs.Crossing.{crossed_fresh, fault_of}
use Rattle.policy.proofs.Filled.{filled_all, filled_more}
use Rattle.books.proofs.books.Books.cross.Goals as goal

pub loop-k-preserved : goal.loop-k-preserved
loop-k-preserved c =
    let old = rows_of c.args.self.now in
    let inside : c.loop-k.k < length c.loop-k.rows = omega (arith, c.rows-given.ensures.law.few, c.loop-k.invariant.long) in
    let over : Reading → Row = λ d. carry d (row_of old d.id) in
    record {
      filled = filled_more over c.loop-k.rows c.rows-given.result.now c.loop-k.k blank c.carry.result c.loop-k-test.true inside c.loop-k.invariant.filled
          (c.carry.ensures ∙ ap (carry _) c.find.ensures);
      long = length-set c.loop-k.rows c.loop-k.k c.carry.result ∙ c.loop-k.invariant.long;
    }

pub returns-in_err-check_late-clause-err : goal.returns-in_err-check_late-clause-err
returns-in_err-check_late-clause-err c =
    let old = rows_of c.args.self.now in
    let over : Reading → Row = λ d. carry d (row_of old d.id) in
    let e = filled_all over c.loop-k.rows c.rows-given.result.now c.loop-k.k c.loop-k-test.false c.loop-k.auto.k-end c.loop-k.invariant.filled ∙ ap (crossed old) c.rows-given.ensures.value in
    let p = err_from_is_err_and c.from_residual.result c.from_residual.ensures.1 in
    rw (p.1, p.2) (fault_of old _ _ _ e c.in_err-check_late.ensures)

pub of-requires-clause-fresh : goal.of-requires-clause-fresh
of-requires-clause-fresh c =
    let old = rows_of c.args.self.now in
    let given = readings_of c.args.list.now in
    let over : Reading → Row = λ d. carry d (row_of old d.id) in
    let e = filled_all over c.loop-k.rows c.rows-given.result.now c.loop-k.k c.loop-k-test.false c.loop-k.auto.k-end c.loop-k.invariant.filled ∙ ap (crossed old) c.rows-given.ensures.value in
    subst Fresh (sym e)
    (crossed_fresh old given (subst WellMade c.rows-given.ensures.value c.rows-given.ensures.law) (fault_of old given _ _ e c.in_ok-check_late.ensures))

pub returns : goal.returns
returns c =
    let old = rows_of c.args.self.now in
    let given = readings_of c.args.list.now in
    let over : Reading → Row = λ d. carry d (row_of old d.id) in
    let e = filled_all over c.loop-k.rows c.rows-given.result.now c.loop-k.k c.loop-k-test.false c.loop-k.auto.k-end c.loop-k.invariant.filled ∙ ap (crossed old) c.rows-given.ensures.value in
    record {
      ok = c.of.ensures ∙ e;
      faultless = fault_of old given _ _ e c.in_ok-check_late.ensures;
      err = tt;
    }
