use Rattle.std.proofs.Common.{◌-◌}
use Rattle.deferral.proofs.UnderWay.{UnderWay}
use Rattle.deferral.proofs.row.lay_row.Given as goal

abbrev pub invariant-loop-job : goal.invariant-loop-job
invariant-loop-job l = UnderWay l.row l.it l.limit l.fn.slots l.slots l.job

abbrev pub decreases-loop-job : goal.decreases-loop-job
decreases-loop-job l = l.limit - l.job.deadline
