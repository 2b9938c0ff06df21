-- Part of the proof: what keeps the promise ahead. No slot to come has a fault, and a crossing that
-- waits leads to books of which the same is true. It is a fact of the type of a board.
use Rattle.std.specs.Prelude.{◌≡◌, ℕ, ◌<◌, ◌≤◌, All, false, List, Some, None}
use Rattle.policy.specs.Course.{Course}
use Rattle.books.specs.Crossings.{crossed}
use Rattle.books.specs.Fresh.{Fresh}
use Rattle.books.specs.Lookups.{Idle}
use Rattle.books.specs.Rows.{finished}
use Rattle.books.specs.Slots.{books_at, fault_at}
use Rattle.books.specs.declared.row.Row.{Row}
use Rattle.board.specs.Log.{Crossing, Running}

-- along this course, from books of these rows, no slot has a fault, however far ahead
pub record Steady (c : Course) (rs : List Row) : Type 0 where
  pub faultless : (n : ℕ) → fault_at c rs n ≡ None
  pub fresh : Fresh rs
  -- each row has work to do, and an open job has some of it left
  pub works : All (λ r. 1 ≤ r.reading.work) rs
  pub undone : All (λ r. finished r.job ≡ false) rs

-- where a crossing waits, no job is open when it comes, and the books that it leads to are steady
-- too
pub record Leads (c : Course) (rs : List Row) (w : Crossing) : Type 0 where
  pub some : 0 < w.ticks
  pub idle : Idle (books_at c rs w.ticks)
  pub steady : Steady w.course (crossed (books_at c rs w.ticks) w.list)

-- what is true of every run of a board
pub record LastingRun (g : Running) : Type 0 where
  pub steady : Steady g.course g.rows
  pub waits : (w : Crossing) → g.waiting ≡ Some w → Leads g.course g.rows w
