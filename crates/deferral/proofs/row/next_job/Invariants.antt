use Rattle.deferral.proofs.OneJob.{ScannedDown}
use Rattle.deferral.proofs.row.next_job.Given as goal

abbrev pub invariant-loop-slot : goal.invariant-loop-slot
invariant-loop-slot l = ScannedDown l.row l.it.work l.initial.slots l.deadline l.slot l.left l.slots
