-- A strip that is played.
use Rattle.std.specs.Prelude.{◌≡◌, ℕ, ◌<◌, ◌≤◌, All, List, length}
use Rattle.strip.specs.declared.work.RowWork.{RowWork}

-- these slots are played with this loop, for n rows, whose work stands first in an array of 16; the
-- place of the next slot is at most the loop's last
pub record InPlay (slots : List ℕ) (first last place : ℕ) (ws : List RowWork) (n : ℕ) : Type 0 where
  pub ordered : first ≤ last
  pub inside : last < length slots
  pub here : place ≤ last
  pub long : length ws ≡ 16
  pub few : n ≤ 16
  pub named : All (λ row. row ≤ n) slots
