use Rattle.std.proofs.Common.{ℕ, ◌+◌, ◌-◌, ◌<◌, ◌≤◌}
use Rattle.rows.specs.Held.{rows_of}
use Rattle.planner.specs.Response.{demand, Settles}
use Rattle.planner.proofs.response.response_time.Given as goal

abbrev pub invariant-loop-slots : goal.invariant-loop-slots
invariant-loop-slots l = ((j : ℕ) → j < l.slots → Settles (rows_of l.above) l.reading.work j → ⊥) × (l.slots ≤ l.reading.work + demand (rows_of l.above) l.slots)

abbrev pub decreases-loop-slots : goal.decreases-loop-slots
decreases-loop-slots l = l.most + 1 - l.slots
