use Rattle.std.proofs.Common.{arith}
use Rattle.deferral.proofs.UnderWay.{begins, goes_on, stops}
use Rattle.deferral.proofs.row.lay_row.Goals as goal

pub loop-job-init : goal.loop-job-init
loop-job-init c =
    let is = c.in_ok-job.ensures.ok_part in
    let first = c.first_job.ensures in
    let taken = rw is at first.taken in
    rw taken (begins c.args.row c.args.it.now c.args.limit c.args.slots.now c.in_ok-job.job c.requires.work (rw is at first.sample) (rw is at first.some))

pub loop-job-preserved : goal.loop-job-preserved
loop-job-preserved c =
    let is = c.in_ok-job-2.ensures.ok_part in
    let next = c.next_job.ensures in
    let taken = rw is at next.taken in
    rw taken (goes_on c.loop-job.invariant c.requires.work (omega arith) (rw is at next.some) c.in_ok-job-2.job (rw is at next.span))

pub returns-clause-ok : goal.returns-clause-ok
returns-clause-ok c = stops c.loop-job.invariant (omega arith)
