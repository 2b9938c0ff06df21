use Rattle.std.proofs.Common.{◌≡◌, ℕ, ◌<◌, ◌≤◌, IsSome, true, length, get_or, None}
use Rattle.books.specs.Rows.{blank_row}
use Rattle.walk.specs.Finishes.{finish_so_far}
use Rattle.walk.proofs.finishes.note_all.Given as goal

abbrev pub invariant-loop-k : goal.invariant-loop-k
invariant-loop-k l =
    record {
      room : length l.rows ≤ length l.finishes;
      passed : (j : ℕ) → j < l.k → get_or l.finishes j None ≡ finish_so_far (get_or l.rows j blank_row) (get_or l.initial.finishes j None) l.instant;
      to_come : (j : ℕ) → l.k ≤ j → get_or l.finishes j None ≡ get_or l.initial.finishes j None;
      all : l.all ≡ true → (j : ℕ) → j < l.k → IsSome (get_or l.finishes j None);
    }
