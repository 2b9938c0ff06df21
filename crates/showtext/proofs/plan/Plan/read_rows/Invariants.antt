use Rattle.std.proofs.Common.{◌≡◌, [], length}
use Rattle.lines.specs.Left.{left}
use Rattle.showtext.specs.Scripted.{rows_ended}
use Rattle.showtext.proofs.plan.Plan.read_rows.Given as goal

-- the readings so far, and the lines that are left, make the plan
abbrev pub invariant-loop-given : goal.invariant-loop-given
invariant-loop-given l = rows_ended [] (left l.fn.lines) ≡ rows_ended l.given.items (left l.lines)

abbrev pub decreases-loop-given : goal.decreases-loop-given
decreases-loop-given l = length (left l.lines)
