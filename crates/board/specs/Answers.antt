-- Part of the promise: how each call is answered, by the log.
use Rattle.std.specs.Prelude.{◌≡◌, ℕ, ◌<◌, ◌≤◌, Bool, false, ◌⊎◌, List, [], map, Some, None, Option, MatchOption, MatchBool, unwrap_or, Ok, Err, ◌==◌, nat_lt}
use Rattle.readings.specs.declared.reading.Reading.{Reading}
use Rattle.policy.specs.Course.{Course, Meaning}
use Rattle.books.specs.Lookups.{Idle, row_of}
use Rattle.books.specs.Rows.{come_on}
use Rattle.books.specs.Slots.{books_at, judged_rows, shown_row, slot}
use Rattle.books.specs.Valid.{AllValid}
use Rattle.books.specs.declared.row.Row.{Row}
use Rattle.walk.specs.Crossings.{Keeps}
use Rattle.walk.specs.Walks.{Outcome, Walks, granted, refused}
use Rattle.board.specs.Log.{Crossing, Log, Reply, Running, nearer, resting, running}
use Rattle.board.specs.Requests.{Request, start, tick, switch, show, stop}
use Rattle.board.specs.declared.call.Grant.TheVariants as grant
use Rattle.board.specs.declared.call.Ticked.{Ticked}

-- no reading is stale now; one without a value is judged by the slots since its id came on
abbrev pub NoneStale : Log → Type 0
NoneStale resting = Unit {0}
NoneStale (running g) = AllValid g.rows

-- a crossing that waits happens at the end of the tick in which the last of its ticks passes
abbrev pub crosses : Option Crossing → Bool
crosses None = false
crosses (Some w) = (nearer w).ticks == 0

-- what a tick grants: the answer of the course, the row whose value goes on show, or 0, and whether
-- a crossing happens
abbrev pub tick_grant : Running → Ticked
tick_grant g =
    record {
      sampled = (g.course 0).0;
      run = (g.course 0).1;
      shown = unwrap_or (shown_row (g.course 0) g.rows) 0;
      crossed = crosses g.waiting;
    }

-- a tick grants that, and no reading is stale in it: not when ages have grown, a value that is
-- replaced among them, and not at its end
pub record Ticks (g : Running) (a : Reply) : Type 0 where
  pub answer : a ≡ Ok (grant.Ticked (tick_grant g))
  pub judged : AllValid (judged_rows (g.course 0) g.rows)
  pub ends : AllValid (slot (g.course 0) g.rows)

-- what a show says of the row of its id; 19 where the list in use has no such id
abbrev pub show_reply : Option Row → Reply
show_reply None = Err (19, [])
show_reply (Some r) =
    Ok (grant.Shown (record { value = r.shown; age = r.age; validity = r.reading.validity }))

-- the instants of a window, in ticks from now: its latency is the last of them
abbrev pub InWindow : (latency k : ℕ) → Type 0
InWindow latency k = k ≤ latency

-- k ticks ahead by the course in use no job is open, and a crossing there, followed by endless
-- slots of the new course, would keep every shared reading valid for ever
pub record Good (g : Running) (list : List Reading) (course : Course) (k : ℕ) : Type 0 where
  pub idle : Idle (books_at g.course g.rows k)
  pub keeps : Keeps (books_at g.course g.rows k) list course

module _ (g : Running) (list : List Reading) (course : Course) (latency : ℕ) (a : Reply) where
  -- granted: the ticks to the first good instant of the window
  pub record FirstGood : Type 0 where
    pub ticks : ℕ
    pub answer : a ≡ Ok (grant.Switched ticks)
    pub within : InWindow latency ticks
    pub good : Good g list course ticks
    pub first : (k : ℕ) → k < ticks → Good g list course k → ⊥

  -- refused with 18: no instant of the window is good
  pub record NoneGood : Type 0 where
    pub answer : a ≡ Err (18, [])
    pub none : (k : ℕ) → InWindow latency k → Good g list course k → ⊥

  -- a walk that is granted lets a switch look for an instant
  abbrev pub Switches : Outcome → Type 0
  Switches (granted mark length) = FirstGood ⊎ NoneGood
  Switches (refused content) = a ≡ Err content

-- a walk that is granted answers a start
abbrev pub Starts : Reply → Outcome → Type 0
Starts a (granted mark length) = a ≡ Ok (grant.Started (record { mark = mark; length = length }))
Starts a (refused content) = a ≡ Err content

-- the answer to a switch, in the order of checking: 16 where a crossing waits, 17 for a latency
-- above 4,095, and then the walk and the window
abbrev pub SwitchChecks : Running → ℕ → Reply → Type 0 → Type 0
SwitchChecks g latency a Rest =
    MatchOption g.waiting
    (MatchBool (nat_lt 4095 latency) (a ≡ Err (17, [])) Rest)
    (λ w. a ≡ Err (16, []))

module _ {Pos : Type 0} (meaning : Meaning Pos) where
  -- the walk of a list and a policy ends so, and the answer is by that end
  pub record WalkAnswers (list : List Reading) (policy : Pos) (By : Outcome → Type 0) : Type 0 where
    pub outcome : Outcome
    pub walks : Walks meaning policy (map come_on list) outcome
    pub answers : By outcome

  -- the answer to a call, by the log: 15 for a start while it runs, and 14 for any other call while
  -- it rests
  abbrev pub Answers : Log → Request Pos → Reply → Type 0
  Answers resting (start list policy) a = WalkAnswers list policy (Starts a)
  Answers resting call a = a ≡ Err (14, [])
  Answers (running g) (start list policy) a = a ≡ Err (15, [])
  Answers (running g) tick a = Ticks g a
  Answers (running g) (switch list policy latency) a =
      SwitchChecks g latency a
      (WalkAnswers list policy (Switches g list (meaning.course policy) latency a))
  Answers (running g) (show id) a = a ≡ show_reply (row_of g.rows id)
  Answers (running g) stop a = a ≡ Ok grant.Stopped
