-- A strip that is walked with books.
use Rattle.std.specs.Prelude.{ℕ, ◌≤◌, All, List, length}

-- these slots may be walked with books of so many rows, the next one first: each names a row or
-- none; at the end of the slots a walk stays there
pub record InWalk (slots : List ℕ) (place rows : ℕ) : Type 0 where
  pub few : length slots ≤ 32767
  pub here : place ≤ length slots
  pub named : All (λ row. row ≤ rows) slots
