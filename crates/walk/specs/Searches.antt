-- What stepping a policy with its books means, and how the search of a walk ends.
use Rattle.std.specs.Prelude.{List, Result}
use Rattle.policy.specs.Course.{Meaning}
use Rattle.books.specs.declared.fault.Fault.{Fault}
use Rattle.books.specs.declared.row.Row.{Row}
use Rattle.repeat.specs.Finds.{Finds, Stepping}
use Rattle.repeat.specs.declared.found.NoRepeat.{NoRepeat}
use Rattle.repeat.specs.declared.found.Repeat.{Repeat}
use Rattle.walk.specs.Steps.{walk_alike, walk_fault, walk_next, walk_stopped}
use Rattle.walk.specs.Walks.{last_instant}

module _ {Pos : Type 0} (kind : Meaning Pos) where
  -- what stepping a policy of this kind with its books means
  abbrev pub walk_meaning : Stepping (Pos × List Row) Fault
  walk_meaning =
      record {
        fault = walk_fault kind;
        next = walk_next kind;
        stopped = walk_stopped kind;
        alike = walk_alike kind;
      }

  -- how the search of a walk ends: for the first repeat of policy and books, up to the walk's last
  -- instant
  abbrev pub Searched : Pos × List Row → Result Repeat (NoRepeat Fault) → Type 0
  Searched s = Finds walk_meaning s last_instant
