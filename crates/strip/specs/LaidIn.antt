-- A strip that is laid in a memory.
use Rattle.std.specs.Prelude.{◌≡◌, ℕ, ◌≤◌, if◌then◌else◌, List, [], length, take, Ok, Err, nat_le}
use Rattle.readings.specs.Ranges.{WellMade}
use Rattle.readings.specs.declared.reading.Reading.{Reading}
use Rattle.deferral.specs.Laying.{Laying, lay}

-- the first n bytes of a memory are what laying a list of these rows on n slots makes, and this is
-- the limit that it leaves
pub record LaidIn (rs : List Reading) (memory : List ℕ) (n limit : ℕ) : Type 0 where
  pub list : WellMade rs
  pub room : n ≤ length memory
  pub laid : lay rs n ≡ Ok (take n memory, limit)

-- laying a list on n slots of a memory of so many bytes: refused with 6 where it has fewer
abbrev pub lay_within : (room : ℕ) → List Reading → (n : ℕ) → Laying
lay_within room rs n = if nat_le n room then lay rs n else Err (6, [])
