-- What values of `Drafts` and `Calls` hold, and when memory runs out.
use Rattle.std.specs.Prelude.{◌≡◌, ℕ, ◌<◌, ◌≤◌, true, if◌then◌else◌, List, [], length, is_some, Some, vec_items, vec_len, vec_capacity}
use Rattle.std.specs.Option.{option_map}
use Rattle.lines.specs.Words.{command_of}
use Rattle.lines.specs.declared.command.Command.TheVariants.{Plan}
use Rattle.lines.specs.declared.command.PlanLine.{PlanLine}
use Rattle.readings.specs.declared.reading.Proposal.{Proposal}
use Rattle.board.specs.Held.{log_of}
use Rattle.board.specs.History.{History}
use Rattle.script.specs.Drafting.{Drafted, Drafting, line_drafted}
use Rattle.script.specs.Plans.{plan_of}
use Rattle.script.specs.States.{State, first_state}
use Rattle.script.specs.declared.calls.Calls.{Calls}
use Rattle.script.specs.declared.drafts.Drafts.{Drafts}
use Rattle.script.specs.declared.drafts.Unbegun.{Unbegun}
use Rattle.script.specs.declared.drafts.Unbegun.TheVariants.{Both, Second, Neither}

-- how many plans have begun
abbrev pub begun_of : Unbegun → ℕ
begun_of (Both first second) = 0
begun_of (Second second) = 1
begun_of Neither = 2

-- the readings so far of the plan that is being written, and none where no plan is
abbrev pub proposed_of : Drafts → List Proposal
proposed_of d = if is_some d.memory then vec_items d.proposed else []

abbrev pub drafting_of : Drafts → Drafting
drafting_of d =
    record {
      begun = begun_of d.unbegun;
      writing = is_some d.memory;
      proposed = proposed_of d;
      first = option_map plan_of d.first;
      second = option_map plan_of d.second;
    }

-- a line of a plan would add a reading, and the readings so far fill the memory that they have
pub record NoRoom (drafted : Drafted) (d : Drafts) : Type 0 where
  pub adds : length (proposed_of d) < length drafted.1.proposed
  pub full : vec_capacity d.proposed ≤ vec_len d.proposed

-- the state while plans are written: the board has not been called
abbrev pub drafts_state : Drafts → State
drafts_state d = record first_state { drafts = drafting_of d }

-- the state while a board is called, after calls and replies that this history is of
abbrev pub state_of : Calls → History → State
state_of calls h =
    record {
      drafts = drafting_of calls.drafts.now;
      called = true;
      log = log_of calls.board;
      history = h;
    }

-- a line finds no room for the reading that it adds
pub record LineFindsNoRoom (text : List ℕ) (d : Drafts) : Type 0 where
  pub line : PlanLine
  pub says : command_of text ≡ Some (Plan line)
  pub no_room : NoRoom (line_drafted line (drafting_of d)) d
