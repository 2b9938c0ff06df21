use Rattle.std.proofs.Common.{◌≡◌, ◌+◌, ◌*◌, ◌≤◌, drop}
use Rattle.planner.specs.Response.{demand}
use Rattle.rows.specs.Held.{rows_of}
use Rattle.planner.proofs.response.demand.Given as goal

abbrev pub invariant-loop-row : goal.invariant-loop-row
invariant-loop-row l =
    (l.row-items ≡ rows_of l.above)
    × (l.taken + demand (drop l.row-index l.row-items) l.slots ≡ demand l.row-items l.slots)
    × (l.taken ≤ 521985 * l.row-index)
