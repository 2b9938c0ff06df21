use Rattle.std.proofs.Common.{◌-◌, arith}
use Rattle.strip.proofs.Steps.{none_worked, one_worked}
use Rattle.strip.proofs.player.run.Goals as goal

pub returns-then-row-gt0 : goal.returns-then-row-gt0
returns-then-row-gt0 c = one_worked c.args.row (c.from.result - 1) c.args.rows.now c.run.new.self (omega arith) (omega arith) c.run.ensures

pub returns-else-row-gt0 : goal.returns-else-row-gt0
returns-else-row-gt0 c = none_worked c.args.row c.args.rows.now (omega arith)
