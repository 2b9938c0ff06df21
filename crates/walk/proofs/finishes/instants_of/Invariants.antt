use Rattle.std.proofs.Common.{◌≡◌, Some, map, take}
use Rattle.rows.specs.Held.{rows_of}
use Rattle.walk.proofs.finishes.instants_of.Given as goal

abbrev pub invariant-loop-finish : goal.invariant-loop-finish
invariant-loop-finish l = map Some (rows_of l.instants) ≡ take l.finish-index l.finishes
