use Rattle.std.proofs.Common.{◌<◌, length, arith}
use Rattle.std.proofs.lemmas.List.{set-get_or}
use Rattle.deferral.proofs.OneJob.{starts_up, up_found, up_lacks, up_more, up_past, up_takes}
use Rattle.deferral.proofs.row.first_job.Goals as goal
use Rattle.deferral.proofs.row.first_job.Goals.{then-holder-eq0+else-left-eq0, else-holder-eq0}

pub loop-slot-init : goal.loop-slot-init
loop-slot-init c = starts_up c.args.row c.args.work c.args.slots.now c.requires.work

pub returns-then-left-eq0-clause-some : goal.returns-then-left-eq0-clause-some
returns-then-left-eq0-clause-some c =
    up_found c.loop-slot.invariant (omega arith) (rw c.from.ensures at c.if-holder-eq0.true) c.if-left-eq0.true c.args.limit c.loop-slot-test.true

pub returns-then-left-eq0-clause-taken : goal.returns-then-left-eq0-clause-taken
returns-then-left-eq0-clause-taken c =
    rw c.from.ensures (up_takes c.loop-slot.invariant (omega arith) (rw c.from.ensures at c.if-holder-eq0.true))

pub loop-slot-preserved : goal.loop-slot-preserved
loop-slot-preserved c =
    let within : c.loop-slot.slot < length c.args.slots.now = omega arith in
    elim c.if-holder-eq0.branch [
      | then-holder-eq0+else-left-eq0 w ↦
          rw (w.slots-is, w.left-is, c.from.ensures)
          (up_more c.loop-slot.invariant within (rw c.from.ensures at w.if-holder-eq0.true) w.if-left-eq0.false)
      | else-holder-eq0 w ↦
          rw (w.slots-is, w.left-is, c.from.ensures, set-get_or)
          (up_past c.loop-slot.invariant within (rw c.from.ensures at w.if-holder-eq0.false))
    ]

pub returns-clause-none : goal.returns-clause-none
returns-clause-none c = up_lacks c.loop-slot.invariant c.args.limit c.loop-slot-test.false
