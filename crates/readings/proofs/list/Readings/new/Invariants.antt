use Rattle.std.proofs.Common.{◌≡◌, All, map, take}
use Rattle.readings.specs.Proposals.{kept}
use Rattle.readings.specs.Ranges.{blank}
use Rattle.rows.specs.Held.{past, rows_of as held}
use Rattle.readings.proofs.list.Readings.new.Given as goal

abbrev pub invariant-loop-proposal : goal.invariant-loop-proposal
invariant-loop-proposal l = record {
  made : held l.rows ≡ map kept (take l.proposal-index l.given);
  rest : All (λ r. r ≡ blank) (past l.rows);
}
