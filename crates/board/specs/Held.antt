-- Part of the promise: the log that a board holds.
use Rattle.std.specs.Prelude.{Some, None, Option}
use Rattle.policy.specs.Policies.{course_of}
use Rattle.policy.specs.declared.policy.Policy.{Ghosts}
use Rattle.books.specs.Held.{rows_of}
use Rattle.board.specs.Log.{Log, Running, resting, running}
use Rattle.board.specs.Waits.{waiting_of}
use Rattle.board.specs.declared.board.Board.{Board}
use Rattle.board.specs.declared.run.Run.{Run}

module _ {P : Type 0} {kind : Ghosts P} where
  -- the books, the course and the waiting crossing of a run
  abbrev pub running_of : Run P kind → Running
  running_of r =
      record {
        rows = rows_of r.books;
        course = course_of kind r.policy;
        waiting = waiting_of r.waiting;
      }

  abbrev pub log_of_run : Option (Run P kind) → Log
  log_of_run None = resting
  log_of_run (Some r) = running (running_of r)

  abbrev pub log_of : Board P kind → Log
  log_of b = log_of_run b.run

  -- a board that runs
  abbrev pub board_of : Run P kind → Board P kind
  board_of r = record { run = Some r }
