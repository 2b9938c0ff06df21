-- What a script has come to between two of its lines.
use Rattle.std.specs.Prelude.{Bool, true, false}
use Rattle.board.specs.History.{History, history_after, no_history}
use Rattle.board.specs.Log.{Log, Reply, log_after, resting}
use Rattle.board.specs.Requests.{Request}
use Rattle.board.specs.Tallies.{Tallies}
use Rattle.script.specs.Boards.{BankPosition, policies}
use Rattle.script.specs.Drafting.{Drafting, no_plans}

pub record State : Type 0 where
  pub drafts : Drafting
  -- the board has been called
  pub called : Bool
  -- what the calls so far and their replies say
  pub log : Log
  pub history : History

abbrev pub first_state : State
first_state = record { drafts = no_plans; called = false; log = resting; history = no_history }

-- the state once the board has been called
abbrev pub once_called : State → State
once_called s = record s { called = true }

-- the state after a call of the board and its reply
abbrev pub state_after : Request BankPosition → Reply → State → State
state_after call a s =
    record s {
      called = true;
      log = log_after policies call a s.log;
      history = history_after call a s.history;
    }

-- log and history are of the same calls and replies
abbrev pub Tallied : State → Type 0
Tallied s = Tallies s.log s.history
