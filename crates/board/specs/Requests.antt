-- Part of the promise: the calls to a board, by what they say: a list by its readings, and a policy
-- by its position.
use Rattle.std.specs.Prelude.{ℕ, List, map}
use Rattle.policy.specs.declared.policy.Policy.{Ghosts}
use Rattle.readings.specs.Lists.{rows_of as readings_of}
use Rattle.readings.specs.declared.reading.Reading.{Reading}
use Rattle.board.specs.declared.call.Call.{Call}
use Rattle.board.specs.declared.call.Call.TheVariants.{Start, Tick, Switch, Show, Stop}

pub data Request (Pos : Type 0) : Type 0 where
  -- a list and a policy are to run
  start : List Reading → Pos → Request Pos
  -- a slot passes
  tick : Request Pos
  -- a list and a policy are to cross in, so many ticks from now at most
  switch : List Reading → Pos → ℕ → Request Pos
  -- how old is the value of this id?
  show : ℕ → Request Pos
  -- the board is to rest
  stop : Request Pos

-- what a call says
abbrev pub request_of : {P : Type 0} (kind : Ghosts P) → Call P → Request kind.Position
request_of kind (Start list policy) = start (readings_of list) (kind.position policy)
request_of kind Tick = tick
request_of kind (Switch list policy latency) =
    switch (readings_of list) (kind.position policy) latency
request_of kind (Show id) = show id
request_of kind Stop = stop

-- what some calls say
abbrev pub requests_of : {P : Type 0} (kind : Ghosts P)
    → List (Call P) → List (Request kind.Position)
requests_of kind = map (request_of kind)
