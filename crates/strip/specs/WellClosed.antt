-- When the bytes of a memory make a closed strip.
use Rattle.std.specs.Prelude.{ℕ, ◌<◌, ◌≤◌, All, List, length, take}

-- the first n bytes of a memory are a strip for so many rows, closed with a loop that has both ends
-- inside: 1 to 32,767 slots, each naming a row or none
pub record WellClosed (rows : ℕ) (memory : List ℕ) (n first last : ℕ) : Type 0 where
  pub some : 1 ≤ n
  pub few : n ≤ 32767
  pub room : n ≤ length memory
  pub from_one : 1 ≤ first
  pub ordered : first ≤ last
  pub inside : last < n
  pub named : All (λ row. row ≤ rows) (take n memory)
