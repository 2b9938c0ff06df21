use Rattle.std.proofs.Common.{length}
use Rattle.readings.specs.Proposals.{refusal_at}
use Rattle.readings.proofs.Firsts.{NoneBelow}
use Rattle.readings.proofs.list.check_rows.Given as goal

abbrev pub invariant-loop-k : goal.invariant-loop-k
invariant-loop-k l = NoneBelow (refusal_at l.rows) (length l.rows) l.k
