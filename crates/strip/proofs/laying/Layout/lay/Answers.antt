use Rattle.std.proofs.lemmas.Result.{err_from_is_err_and}
use Rattle.readings.specs.Lists.{rows_of}
use Rattle.strip.proofs.LaidThere.{laid_in, length_kept}
use Rattle.strip.proofs.laying.Layout.lay.Goals as goal

pub returns-in_err-limit-clause-fits : goal.returns-in_err-limit-clause-fits
returns-in_err-limit-clause-fits c =
    let p = err_from_is_err_and c.from_residual.result c.from_residual.ensures.1 in
    rw (p.1, p.2) (length_kept (rows_of c.args.list.now) c.args.memory.now c.args.slots _ c.requires.some c.requires.few c.requires.room c.in_err-limit.ensures.err)

pub returns-clause-laid : goal.returns-clause-laid
returns-clause-laid c =
    rw c.new.ensures
    (laid_in (rows_of c.args.list.now) c.args.memory.now c.lay.new.slots c.args.slots c.in_ok-limit.limit c.args.list.now.law c.requires.room c.lay.auto.slots c.in_ok-limit.ensures.ok)
