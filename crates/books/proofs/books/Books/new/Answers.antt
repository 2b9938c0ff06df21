use Rattle.std.proofs.Common.{◌<◌, List, map, length, length-set, sym, ap, ◌∙◌, subst, arith}
use Rattle.readings.specs.Ranges.{blank}
use Rattle.readings.specs.declared.reading.Reading.{Reading}
use Rattle.books.specs.Ages.{AgesCounted}
use Rattle.books.specs.Fresh.{Fresh}
use Rattle.books.specs.Rows.{come_on}
use Rattle.books.proofs.Ages.{ages_counted}
use Rattle.books.proofs.Began.{began_fresh}
use Rattle.policy.proofs.Filled.{filled_all, filled_more}
use Rattle.books.proofs.books.Books.new.Goals as goal

pub loop-k-preserved : goal.loop-k-preserved
loop-k-preserved c =
    let inside : c.loop-k.k < length c.loop-k.rows = omega (arith, c.rows-readings.ensures.law.few, c.loop-k.invariant.long) in
    record {
      filled = filled_more come_on c.loop-k.rows c.rows-readings.result.now c.loop-k.k blank c.new.result c.loop-k-test.true inside c.loop-k.invariant.filled c.new.ensures;
      long = length-set c.loop-k.rows c.loop-k.k c.new.result ∙ c.loop-k.invariant.long;
    }

pub of-requires-clause-fresh : goal.of-requires-clause-fresh
of-requires-clause-fresh c =
    let given = c.rows-readings.result.now in
    let e = filled_all come_on c.loop-k.rows given c.loop-k.k c.loop-k-test.false c.loop-k.auto.k-end c.loop-k.invariant.filled in
    subst Fresh (sym e) (began_fresh given c.rows-readings.ensures.law)

pub returns : goal.returns
returns c =
    let given = c.rows-readings.result.now in
    let e = c.of.ensures ∙ filled_all come_on c.loop-k.rows given c.loop-k.k c.loop-k-test.false c.loop-k.auto.k-end c.loop-k.invariant.filled in
    record {
      value = e ∙ ap (λ (rs : List Reading). map come_on rs) c.rows-readings.ensures.value;
      ages = subst AgesCounted (sym e) (ages_counted given c.rows-readings.ensures.law);
    }
