use Rattle.std.proofs.Common.{◌≡◌, ℕ, ◌<◌, List, length, get_or, None}
use Rattle.repeat.specs.Marks.{after}
use Rattle.books.specs.Held.{rows_of}
use Rattle.books.specs.declared.row.Row.{Row}
use Rattle.walk.specs.Steps.{walk_next}
use Rattle.walk.proofs.Finishing.{FinishBy}
use Rattle.walk.proofs.walker.Walker.first_finishes.Given as goal

abbrev pub invariant-loop-slot : goal.invariant-loop-slot
invariant-loop-slot g l =
    let p = g.P.Policy.position l.self.policy in
    let rs = rows_of l.self.books in
    record {
      stands : ◌≡◌ {A = g.P.Policy.Position × List Row} (g.P.Policy.position l.walker.policy, rows_of l.walker.books) (after (walk_next g.P.Policy.meaning) l.slot (p, rs));
      finishes : (k : ℕ) → k < length rs → FinishBy (g.P.Policy.meaning.course p) rs k l.slot (get_or l.finishes k None);
    }
