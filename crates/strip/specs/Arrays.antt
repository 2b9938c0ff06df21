-- The rows of a list in an array.
use Rattle.std.specs.Prelude.{◌≡◌, ℕ, ◌≤◌, List, length, take}
use Rattle.readings.specs.Ranges.{WellMade}
use Rattle.readings.specs.declared.reading.Reading.{Reading}

-- an array of 16 readings, of which the first so many make a list
pub record InArray (readings : List Reading) (count : ℕ) : Type 0 where
  pub long : length readings ≡ 16
  pub few : count ≤ 16
  pub law : WellMade (take count readings)
