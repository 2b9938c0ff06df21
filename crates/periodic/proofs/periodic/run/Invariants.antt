use Rattle.std.proofs.Common.{◌≡◌}
use Rattle.periodic.proofs.Lowest.{IdleBelow}
use Rattle.periodic.proofs.periodic.run.Given as goal

abbrev pub invariant-loop-k : goal.invariant-loop-k
invariant-loop-k l = (l.phases ≡ l.initial.phases) × IdleBelow l.k l.initial.phases
