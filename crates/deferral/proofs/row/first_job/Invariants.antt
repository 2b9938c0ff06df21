use Rattle.deferral.proofs.OneJob.{ScannedUp}
use Rattle.deferral.proofs.row.first_job.Given as goal

abbrev pub invariant-loop-slot : goal.invariant-loop-slot
invariant-loop-slot l = ScannedUp l.row l.work l.initial.slots l.slot l.left l.slots
