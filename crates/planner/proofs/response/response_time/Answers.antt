use Rattle.std.proofs.Common.{◌≡◌, ◌+◌, Some, ◌∙◌, arith, rules}
use Rattle.rows.specs.Held.{rows_of}
use Rattle.planner.specs.Response.{demand}
use Rattle.planner.proofs.Settling.{none_below, rises, settled, unsettled}
use Rattle.planner.proofs.response.response_time.Goals as goal

pub returns-then-needed-slots : goal.returns-then-needed-slots
returns-then-needed-slots c =
    let told : c.ok.result ≡ Some c.loop-slots.slots = search (rules, arith) in
    told ∙ settled (rows_of c.args.above.now) c.args.reading.now.work c.args.reading.now.validity c.loop-slots.slots c.loop-slots.invariant.0 (omega arith) (omega arith)

pub loop-slots-preserved : goal.loop-slots-preserved
loop-slots-preserved c =
    let asked : c.from-own.result + c.demand.result ≡ c.args.reading.now.work + demand (rows_of c.args.above.now) c.loop-slots.slots = omega (arith, c.demand.ensures.value) in
    rw asked (none_below (rows_of c.args.above.now) c.args.reading.now.work c.requires.positive c.loop-slots.slots c.loop-slots.invariant.0, rises (rows_of c.args.above.now) c.args.reading.now.work c.requires.positive c.loop-slots.slots c.loop-slots.invariant.1)

pub returns : goal.returns
returns c =
    unsettled (rows_of c.args.above.now) c.args.reading.now.work c.args.reading.now.validity c.loop-slots.slots c.loop-slots.invariant.0 (omega arith)
