use Rattle.std.proofs.Common.{arith}
use Rattle.std.proofs.lemmas.Bool.{false≢true}
use Rattle.readings.specs.Lists.{rows_of}
use Rattle.strip.specs.Strips.{strip_of}
use Rattle.script.proofs.StripsMade.{empty_closes, is_empty}
use Rattle.script.proofs.strips.empty_strip.Goals as goal

pub unreachable-requires : goal.unreachable-requires
unreachable-requires c = false≢true (c.in-Err.ensures.granted.1 (empty_closes c.args.memory.now (omega arith) _))

pub returns : goal.returns
returns c =
    let e = c.in-Ok.ensures in
    is_empty c.args.memory.now (omega arith) (strip_of c.in-Ok.strip) (rows_of c.args.list.now) e.list e.slots e.first e.last
