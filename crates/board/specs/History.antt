-- Part of the promise: what calls and their replies tell, newest first: the granted ticks, and the
-- lists that came into use.
use Rattle.std.specs.Prelude.{if◌then◌else◌, Bool, List, [], ◌∷◌, Some, None, Option, Ok, Err, ◌==◌}
use Rattle.readings.specs.declared.reading.Reading.{Reading}
use Rattle.board.specs.Log.{Reply, ticks_of}
use Rattle.board.specs.Requests.{Request, start, tick, switch, show, stop}
use Rattle.board.specs.declared.call.Grant.{Grant}
use Rattle.board.specs.declared.call.Grant.TheVariants as grants
use Rattle.board.specs.declared.call.Ticked.{Ticked}

pub data Event : Type 0 where
  -- a list came into use, by a start or a crossing
  came : List Reading → Event
  -- a granted tick, with the list in use and what it replied
  passed : List Reading → Ticked → Event

-- the events since the last granted start, and the list that waits to cross in, if one does
pub record History : Type 0 where
  pub events : List Event
  pub next : Option (List Reading)

abbrev pub no_history : History
no_history = record { events = []; next = None }

-- the list in use
abbrev pub in_use : List Event → List Reading
in_use [] = []
in_use (came list ∷ es) = list
in_use (passed list t ∷ es) = list

-- a list comes into use
abbrev pub comes_in : List Reading → List Event → History
comes_in list es = record { events = came list ∷ es; next = None }

-- the history after the end of a tick that says whether a crossing happened
abbrev pub after_end : Bool → List Event → Option (List Reading) → History
after_end crossed es None = record { events = es; next = None }
after_end crossed es (Some list) =
    if crossed then comes_in list es else record { events = es; next = Some list }

-- the history after a grant to a tick
abbrev pub after_tick : Grant → History → History
after_tick (grants.Ticked t) h =
    after_end t.crossed (passed (in_use h.events) t ∷ h.events) h.next
after_tick _ h = h

-- the history after a granted call
abbrev pub after_grant : {Pos : Type 0} → Request Pos → Grant → History → History
after_grant (start list policy) grant h = comes_in list []
after_grant tick grant h = after_tick grant h
after_grant (switch list policy latency) grant h =
    if ticks_of grant == 0 then comes_in list h.events else record h { next = Some list }
after_grant (show id) grant h = h
after_grant stop grant h = no_history

-- the history after any call: a refused one leaves it alone
abbrev pub history_after : {Pos : Type 0} → Request Pos → Reply → History → History
history_after call (Ok grant) h = after_grant call grant h
history_after call (Err refused) h = h
