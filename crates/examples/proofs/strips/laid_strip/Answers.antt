use Rattle.std.proofs.Common.{◌≤◌, Err}
use Rattle.std.proofs.lemmas.Result.{err_from_is_err_and}
use Rattle.readings.specs.Lists.{rows_of}
use Rattle.readings.specs.Refusals.{content}
use Rattle.strip.specs.Layings.{room_of}
use Rattle.strip.specs.Strips.{strip_of}
use Rattle.examples.proofs.Making.{closes, loop_found, no_loop}
use Rattle.examples.proofs.strips.laid_strip.Goals as goal

pub returns-in_err-lay-clause-err : goal.returns-in_err-lay-clause-err
returns-in_err-lay-clause-err c =
    let fits : c.args.slots ≤ room_of c.new-strip.result = rw c.new-strip.ensures.memory c.requires in
    let refused = c.in_err-lay in
    let out = err_from_is_err_and c.from_residual.result c.from_residual.ensures.1 in
    rw (out.1, out.2)
    (closes (rows_of c.args.list.now) c.args.slots _ fits (Err (content refused.field-0.0)) refused.ensures.err)

pub returns-in-Ok-clause-ok : goal.returns-in-Ok-clause-ok
returns-in-Ok-clause-ok c =
    let fits : c.args.slots ≤ room_of c.new-strip.result = rw c.new-strip.ensures.memory c.requires in
    let laid = c.in_ok-lay.ensures in
    let is = c.in-Ok.ensures in
    loop_found (rows_of c.args.list.now) c.args.slots _ fits _ _ _ laid.ok laid.list (strip_of c.in-Ok.closed) is.list is.slots is.value

pub returns-in-Err-clause-err : goal.returns-in-Err-clause-err
returns-in-Err-clause-err c =
    let fits : c.args.slots ≤ room_of c.new-strip.result = rw c.new-strip.ensures.memory c.requires in
    let laid = c.in_ok-lay.ensures in
    let is = c.in-Err.ensures in
    rw is.err (no_loop (rows_of c.args.list.now) c.args.slots _ fits _ _ _ laid.ok laid.list is.none)
