-- Part of the promise: the operator's log, which is what the calls, which of them were granted and
-- the number that a switch answered say of the readings, with nothing of the board's inside.
use Rattle.std.specs.Prelude.{ℕ, ◌+◌, ◌-◌, if◌then◌else◌, List, map, Some, None, Option, Ok, Err, Result, ◌==◌}
use Rattle.readings.specs.Refusals.{Content, content}
use Rattle.readings.specs.declared.reading.Reading.{Reading}
use Rattle.readings.specs.declared.refusal.Refusal.{Refusal}
use Rattle.policy.specs.Course.{Course, Meaning}
use Rattle.books.specs.Crossings.{crossed}
use Rattle.books.specs.Rows.{come_on}
use Rattle.books.specs.Slots.{slot}
use Rattle.books.specs.declared.row.Row.{Row}
use Rattle.board.specs.Requests.{Request, start, tick, switch, show, stop}
use Rattle.board.specs.declared.call.Grant.{Grant}
use Rattle.board.specs.declared.call.Grant.TheVariants.{Switched}

-- what a board replies to a call: what it grants, or the number and the values of a refusal
abbrev pub Reply : Type 0
Reply = Result Grant Content

-- the reply of a call that answers in the words of its own kind
abbrev pub reply_of : {A : Type 0} → (A → Grant) → Result A Refusal → Reply
reply_of grant (Ok x) = Ok (grant x)
reply_of grant (Err e) = Err (content e)

-- replies in the words of all calls
abbrev pub replies_of : List (Result Grant Refusal) → List Reply
replies_of = map (reply_of (λ grant. grant))

-- a crossing: so many ticks ahead, to this list and this course
pub record Crossing : Type 0 where
  pub ticks : ℕ
  pub list : List Reading
  pub course : Course

abbrev pub crossing_from : ℕ → List Reading → Course → Crossing
crossing_from ticks list course = record { ticks = ticks; list = list; course = course }

-- what the log has while a board runs: the books of its list, its course, and a crossing that
-- waits, if one does
pub record Running : Type 0 where
  pub rows : List Row
  pub course : Course
  pub waiting : Option Crossing

pub data Log : Type 0 where
  resting : Log
  running : Running → Log

-- a start: new books for the list
abbrev pub started : List Reading → Course → Running
started list course = record { rows = map come_on list; course = course; waiting = None }

-- list and course cross in
abbrev pub crosses_in : Crossing → Running → Running
crosses_in w g = record { rows = crossed g.rows w.list; course = w.course; waiting = None }

-- a crossing is to come: at once where no tick is left, and else it waits
abbrev pub to_come : Crossing → Running → Running
to_come w g = if w.ticks == 0 then crosses_in w g else record g { waiting = Some w }

-- the course from the next slot on
abbrev pub from_next : Course → Course
from_next c n = c (n + 1)

-- the next answer of the course, through all five steps, faults or not
abbrev pub slot_passes : Running → Running
slot_passes g = record g { rows = slot (g.course 0) g.rows; course = from_next g.course }

-- a crossing that is a tick nearer
abbrev pub nearer : Crossing → Crossing
nearer w = record w { ticks = w.ticks - 1 }

-- the end of a tick, where a crossing that waits is a tick nearer
abbrev pub tick_ends : Option Crossing → Running → Running
tick_ends None g = g
tick_ends (Some w) g = to_come (nearer w) g

-- a granted tick
abbrev pub ticked : Running → Running
ticked g = tick_ends g.waiting (slot_passes g)

-- the number of ticks that a switch answered
abbrev pub ticks_of : Grant → ℕ
ticks_of (Switched ticks) = ticks
ticks_of _ = 0

-- a change to what runs; a log that rests has nothing to change
abbrev pub while_running : (Running → Running) → Log → Log
while_running f resting = resting
while_running f (running g) = running (f g)

module _ {Pos : Type 0} (meaning : Meaning Pos) where
  -- the log after a granted call
  abbrev pub log_after_grant : Request Pos → Grant → Log → Log
  log_after_grant (start list policy) grant log = running (started list (meaning.course policy))
  log_after_grant tick grant log = while_running ticked log
  log_after_grant (switch list policy latency) grant log =
      while_running (to_come (crossing_from (ticks_of grant) list (meaning.course policy))) log
  log_after_grant (show id) grant log = log
  log_after_grant stop grant log = resting

  -- the log after a call: a refused one leaves it alone
  abbrev pub log_after : Request Pos → Reply → Log → Log
  log_after call (Ok grant) log = log_after_grant call grant log
  log_after call (Err refused) log = log
