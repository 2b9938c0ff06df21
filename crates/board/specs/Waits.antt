-- Part of the promise: the crossing that a board holds while it waits.
use Rattle.std.specs.Prelude.{ℕ, Option, option_map}
use Rattle.policy.specs.declared.policy.Policy.{Ghosts}
use Rattle.readings.specs.Lists.{rows_of as readings_of}
use Rattle.walk.specs.Plans.{list_of, plan_course}
use Rattle.walk.specs.declared.plan.Accepted.{Accepted}
use Rattle.board.specs.Log.{Crossing}
use Rattle.board.specs.declared.waiting.Waiting.{Waiting}

module _ {P : Type 0} {kind : Ghosts P} where
  -- a crossing to a plan, so many ticks ahead
  abbrev pub crossing_to : Accepted P kind → ℕ → Crossing
  crossing_to plan ticks =
      record { ticks = ticks; list = readings_of (list_of plan); course = plan_course plan }

  abbrev pub crossing_of : Waiting P kind → Crossing
  crossing_of w = crossing_to w.plan w.ticks

  abbrev pub waiting_of : Option (Waiting P kind) → Option Crossing
  waiting_of = option_map crossing_of
