-- The rows of a list, given again.
use Rattle.std.proofs.Common.{◌≡◌, ℕ, ◌≤◌, List, [], ◌∷◌, length, map, take, refl, ap, ◌∙◌}
use Rattle.readings.specs.Proposals.{kept}
use Rattle.readings.specs.declared.reading.Proposal.{Proposal}
use Rattle.readings.specs.declared.reading.Reading.{Reading}
use Rattle.policy.proofs.Filled.{filled_all}

-- the numbers of a reading, as they are given
abbrev pub proposed : Reading → Proposal
proposed r = record { id = r.id; work = r.work; validity = r.validity }

-- they are kept as they were
kept-proposed : (rows : List Reading) → map kept (map proposed rows) ≡ rows
kept-proposed [] = refl
kept-proposed (r ∷ rows) = ap (λ (rs : List Reading). r ∷ rs) (kept-proposed rows)

-- and so all of them are, once all are given
pub given_again : (given : List Proposal) (rows : List Reading) (k : ℕ) → length rows ≤ k → k ≤ length rows → take k given ≡ map proposed (take k rows) → map kept (take (length rows) given) ≡ rows
given_again given rows k end within filled = ap (map kept) (filled_all proposed given rows k end within filled) ∙ kept-proposed rows
