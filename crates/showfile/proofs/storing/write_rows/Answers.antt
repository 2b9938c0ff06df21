-- One row more is written.
use Rattle.std.proofs.Common.{◌∙◌, arith}
use Rattle.readings.specs.Ranges.{blank}
use Rattle.showfile.proofs.Written.{row_written}
use Rattle.showfile.proofs.storing.write_rows.Goals as goal

pub loop-k-preserved : goal.loop-k-preserved
loop-k-preserved c =
    let bytes = c.copy_from_slice.new.self in
    let written = c.copy_from_slice.ensures.after ∙ c.row_bytes.ensures in
    let k = c.loop-k.k in
    row_written 80 c.args.rows.now k _ blank c.loop-k.bytes bytes c.loop-k-test.true (omega arith) c.loop-k.invariant written
