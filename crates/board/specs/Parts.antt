-- Part of the proof: what the parts of the code do that a call is put together from.
use Rattle.std.specs.Prelude.{ℕ, ◌<◌, List, Some, None, Option}
use Rattle.readings.specs.declared.reading.Reading.{Reading}
use Rattle.policy.specs.Course.{Course}
use Rattle.books.specs.Slots.{books_at}
use Rattle.books.specs.declared.row.Row.{Row}
use Rattle.walk.specs.Crossings.{MayCross}
use Rattle.board.specs.Answers.{InWindow}

-- the first instant of a window at which the crossing test says yes, or none
abbrev pub FirstTested : Course → List Row → List Reading → List ℕ → ℕ → Option ℕ → Type 0
FirstTested c rs list finishes latency None =
    (k : ℕ) → InWindow latency k → MayCross (books_at c rs k) list finishes → ⊥
FirstTested c rs list finishes latency (Some ticks) =
    InWindow latency ticks
    × MayCross (books_at c rs ticks) list finishes
    × ((k : ℕ) → k < ticks → MayCross (books_at c rs k) list finishes → ⊥)
