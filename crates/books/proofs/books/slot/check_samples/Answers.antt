use Rattle.std.proofs.lemmas.Result.{err_from_is_err_and}
use Rattle.books.specs.Slots.{sample_fault}
use Rattle.readings.proofs.Firsts.{first_all, first_found, first_more, first_none}
use Rattle.books.proofs.Named.{none_sampled}
use Rattle.books.proofs.books.slot.check_samples.Goals as goal

pub returns-then-samples-eq0 : goal.returns-then-samples-eq0
returns-then-samples-eq0 c =
    first_none (sample_fault c.args.samples c.args.rows.now) 0 16 (λ k _. none_sampled c.args.samples c.args.rows.now c.if-samples-eq0.true k)

pub returns-in_err-check_sample : goal.returns-in_err-check_sample
returns-in_err-check_sample c =
    let p = err_from_is_err_and c.from_residual.result c.from_residual.ensures.1 in
    rw (p.1, p.2) (first_found (sample_fault c.args.samples c.args.rows.now) 16 c.loop-k.k c.in_err-check_sample.field-0.0 c.loop-k-test.true c.loop-k.invariant c.in_err-check_sample.ensures)

pub loop-k-preserved : goal.loop-k-preserved
loop-k-preserved c =
    first_more (sample_fault c.args.samples c.args.rows.now) 16 c.loop-k.k c.loop-k-test.true c.loop-k.invariant c.in_ok-check_sample.ensures

pub returns : goal.returns
returns c = first_all (sample_fault c.args.samples c.args.rows.now) 16 c.loop-k.k c.loop-k-test.false c.loop-k.invariant
