use Rattle.std.proofs.Common.{◌+◌, ◌-◌, ap, arith}
use Rattle.std.proofs.lemmas.List.{set-get_or}
use Rattle.deferral.proofs.OneJob.{starts_down, down_found, down_has, down_lacks, down_more, down_past, down_takes}
use Rattle.deferral.proofs.row.next_job.Goals as goal

pub loop-slot-init : goal.loop-slot-init
loop-slot-init c =
    starts_down c.args.row c.args.it.now.work c.args.slots.now (c.args.before.sample + c.args.it.now.validity) c.requires.work

pub returns-then-left-eq0-clause-some : goal.returns-then-left-eq0-clause-some
returns-then-left-eq0-clause-some c =
    let n = c.loop-slot.slot - 1 in
    down_has c.loop-slot.invariant n (omega arith) c.loop-slot.auto.slot c.requires.within (rw c.from.ensures at c.if-holder-eq0.true) c.if-left-eq0.true c.args.before.deadline (omega arith)

pub returns-then-left-eq0-clause-span : goal.returns-then-left-eq0-clause-span
returns-then-left-eq0-clause-span c =
    let n = c.loop-slot.slot - 1 in
    let d = c.args.before.sample + c.args.it.now.validity in
    ap (λ m. record { sample = m; deadline = d })
    (down_found c.loop-slot.invariant n (omega arith) c.loop-slot.auto.slot c.requires.within (rw c.from.ensures at c.if-holder-eq0.true) c.if-left-eq0.true)

pub returns-then-left-eq0-clause-taken : goal.returns-then-left-eq0-clause-taken
returns-then-left-eq0-clause-taken c =
    rw c.from.ensures
    (down_takes c.loop-slot.invariant (c.loop-slot.slot - 1) (omega arith) c.loop-slot.auto.slot c.requires.within (rw c.from.ensures at c.if-holder-eq0.true))

pub loop-slot-preserved-else-left-eq0 : goal.loop-slot-preserved-else-left-eq0
loop-slot-preserved-else-left-eq0 c =
    rw c.from.ensures
    (down_more c.loop-slot.invariant (c.loop-slot.slot - 1) (omega arith) c.loop-slot.auto.slot c.requires.within (rw c.from.ensures at c.if-holder-eq0.true) c.if-left-eq0.false)

pub loop-slot-preserved : goal.loop-slot-preserved
loop-slot-preserved c =
    rw (c.from.ensures, set-get_or)
    (down_past c.loop-slot.invariant (c.loop-slot.slot - 1) (omega arith) c.loop-slot.auto.slot c.requires.within (rw c.from.ensures at c.if-holder-eq0.false))

pub returns-clause-none : goal.returns-clause-none
returns-clause-none c = down_lacks c.loop-slot.invariant c.args.before.deadline c.loop-slot-test.false
