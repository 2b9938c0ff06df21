-- Part of the proof, and of the promise as a premise: the books of a log tally with what calls and
-- their replies told.
use Rattle.std.specs.Prelude.{◌≡◌, ℕ, ◌+◌, ◌<◌, ◌≤◌, true, List, map, length, take, Some, None, Option, option_map}
use Rattle.books.specs.Lookups.{row_of}
use Rattle.books.specs.declared.row.Job.{Job}
use Rattle.books.specs.declared.row.Row.{Row}
use Rattle.board.specs.Ages.{AgeMeans, RowTick, back, runs_in, stay}
use Rattle.board.specs.History.{History, in_use}
use Rattle.board.specs.Log.{Crossing, Log, Running, resting, running}

-- an open job: the tick that its age says sampled the row, which then had this work length, and
-- what is left of that has not been run since
pub record WorkedOn (ticks : List RowTick) (work : ℕ) (j : Job) : Type 0 where
  pub begun : 0 < j.age
  pub within : j.age ≤ length ticks
  pub sampled : (back j.age ticks).sampled ≡ true
  pub whole : (back j.age ticks).work ≡ work
  pub done : runs_in (take j.age ticks) + j.left ≡ work

abbrev pub JobTallies : List RowTick → ℕ → Option Job → Type 0
JobTallies ticks work None = Unit {0}
JobTallies ticks work (Some j) = WorkedOn ticks work j

-- a row, with the ticks since its id came on
pub record RowTallies (ticks : List RowTick) (r : Row) : Type 0 where
  pub value : AgeMeans ticks r.shown r.age
  pub job : JobTallies ticks r.reading.work r.job

pub record RunTallies (g : Running) (h : History) : Type 0 where
  pub list : in_use h.events ≡ map (λ (r : Row). r.reading) g.rows
  pub next : h.next ≡ option_map (λ (w : Crossing). w.list) g.waiting
  pub rows : (id : ℕ) (r : Row) → row_of g.rows id ≡ Some r → RowTallies (stay id h.events) r

abbrev pub Tallies : Log → History → Type 0
Tallies resting h = Unit {0}
Tallies (running g) h = RunTallies g h
