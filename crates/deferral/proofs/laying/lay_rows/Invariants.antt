use Rattle.std.proofs.Common.{◌≡◌, ◌≤◌, drop, length}
use Rattle.deferral.specs.Laying.{lay_rows}
use Rattle.deferral.proofs.laying.lay_rows.Given as goal

abbrev pub invariant-loop-k : goal.invariant-loop-k
invariant-loop-k l = (l.limit ≤ length l.slots) × (lay_rows l.k (drop l.k l.rows) l.limit l.slots ≡ lay_rows 0 l.rows l.initial.limit l.initial.slots)
