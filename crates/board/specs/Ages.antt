-- Part of the promise: what an age means, told by calls and their replies alone. It is the law of
-- ages to read; the one in the crate books is told of the answers of one course, and serves its
-- proof.
use Rattle.std.specs.Prelude.{◌≡◌, ℕ, ◌+◌, ◌-◌, ◌<◌, ◌≤◌, Bool, true, false, if◌then◌else◌, ◌&&◌, List, [], ◌∷◌, length, take, drop, is_some, Some, None, Option, Ok, MatchBool, ◌==◌, slice_index_or}
use Rattle.readings.specs.Ranges.{blank}
use Rattle.readings.specs.declared.reading.Reading.{Reading}
use Rattle.policy.specs.Course.{names}
use Rattle.board.specs.History.{Event, History, came, in_use, passed}
use Rattle.board.specs.Log.{Reply}
use Rattle.board.specs.Requests.{Request, show}
use Rattle.board.specs.declared.call.Grant.TheVariants.{Shown}
use Rattle.board.specs.declared.call.Ticked.{Ticked}

-- the place of an id in a list, counted from k
abbrev pub place_from : ℕ → List Reading → ℕ → Option ℕ
place_from k [] id = None
place_from k (d ∷ ds) id = if d.id == id then Some k else place_from (k + 1) ds id

abbrev pub has : List Reading → ℕ → Bool
has list id = is_some (place_from 0 list id)

-- what a tick did for an id, by the row that the id then was
pub record RowTick : Type 0 where
  pub sampled : Bool
  pub ran : Bool
  -- a value of the id went on show
  pub shown : Bool
  -- the work length of the row
  pub work : ℕ

abbrev pub no_tick : RowTick
no_tick = record { sampled = false; ran = false; shown = false; work = 0 }

-- a tick by what it granted, for row k + 1 of a list
abbrev pub tick_of : List Reading → Ticked → Option ℕ → RowTick
tick_of list t None = no_tick
tick_of list t (Some k) =
    record {
      sampled = names t.sampled k;
      ran = t.run == k + 1;
      shown = t.shown == k + 1;
      work = (slice_index_or list k blank).work;
    }

-- the ticks since an id came on, newest first: it stays on through crossings to lists that have it
abbrev pub stay : ℕ → List Event → List RowTick
stay id [] = []
stay id (came list ∷ es) =
    if has list id && has (in_use es) id then stay id es else []
stay id (passed list t ∷ es) = tick_of list t (place_from 0 list id) ∷ stay id es

-- the tick so many ticks back, 1 for the last
abbrev pub back : ℕ → List RowTick → RowTick
back n ticks = slice_index_or ticks (n - 1) no_tick

-- how many of these ticks ran the row
abbrev pub runs_in : List RowTick → ℕ
runs_in [] = 0
runs_in (t ∷ ts) = (if t.ran then 1 else 0) + runs_in ts

-- no value of the id went on show in the last n ticks
abbrev pub NoneShown : ℕ → List RowTick → Type 0
NoneShown n ticks = (m : ℕ) → m < n → (slice_index_or ticks m no_tick).shown ≡ false

-- a value of this age: the tick so many ticks back, 1 for the last, sampled the row; that tick or
-- one since put its value on show; from the one to the other exactly C ticks ran the row, the last
-- of them being the other; and no later tick put a value of the id on show
pub record Counted (ticks : List RowTick) (age : ℕ) : Type 0 where
  -- the ticks after the one that put the value on show
  pub since : ℕ
  pub after : since < age
  pub within : age ≤ length ticks
  pub sampled : (back age ticks).sampled ≡ true
  pub shown : (back (since + 1) ticks).shown ≡ true
  pub last : (back (since + 1) ticks).ran ≡ true
  pub work : runs_in (drop since (take age ticks)) ≡ (back age ticks).work
  pub latest : NoneShown since ticks

-- a row that has had no value since it came on: its age counts the ticks since then
pub record Waits (ticks : List RowTick) (age : ℕ) : Type 0 where
  pub age_is : age ≡ length ticks
  pub none : NoneShown (length ticks) ticks

abbrev pub AgeMeans : List RowTick → Bool → ℕ → Type 0
AgeMeans ticks value age = MatchBool value (Counted ticks age) (Waits ticks age)

-- what the reply to a call says of an age, by the calls and replies before it: only a show says one
abbrev pub Means : {Pos : Type 0} → Request Pos → History → Reply → Type 0
Means (show id) h (Ok (Shown s)) = AgeMeans (stay id h.events) s.value s.age
Means _ h a = Unit {0}
