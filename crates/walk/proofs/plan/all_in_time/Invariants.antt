use Rattle.std.proofs.Common.{ℕ, ◌<◌, get_or}
use Rattle.readings.specs.Ranges.{blank}
use Rattle.books.specs.Held.{rows_of}
use Rattle.walk.specs.Crossings.{InTime}
use Rattle.walk.proofs.plan.all_in_time.Given as goal

abbrev pub invariant-loop-k : goal.invariant-loop-k
invariant-loop-k l = (j : ℕ) → j < l.k → InTime (rows_of l.books) (get_or l.readings j blank) (get_or l.finishes j 0)
