-- What the rows of a list hold.
use Rattle.std.specs.Prelude.{◌≤◌, ◌≢◌, All, AllPairs, List, length}
use Rattle.std.specs.List.Sorted.{IsNonDecreasingBy}
use Rattle.readings.specs.declared.reading.Reading.{Reading}

-- what stands past the last row
abbrev pub blank : Reading
blank = record { id = 0; work = 0; validity = 0 }

-- an id is 1 to 65,535
abbrev pub IdRange : Reading → Type 0
IdRange r = (1 ≤ r.id) × (r.id ≤ 65535)

-- a work length is 1 to 255 slots
abbrev pub WorkRange : Reading → Type 0
WorkRange r = (1 ≤ r.work) × (r.work ≤ 255)

-- a validity is 2 to 4,095 slots, and no less than the work length
abbrev pub ValidityRange : Reading → Type 0
ValidityRange r = (2 ≤ r.validity) × (r.validity ≤ 4095) × (r.work ≤ r.validity)

-- the law of a list: 1 to 16 rows, each in range, no two with one id, in order of validity
pub record WellMade (rs : List Reading) : Type 0 where
  pub some : 1 ≤ length rs
  pub few : length rs ≤ 16
  pub ids : All IdRange rs
  pub works : All WorkRange rs
  pub validities : All ValidityRange rs
  pub apart : AllPairs (λ r s. r.id ≢ s.id) rs
  pub ordered : IsNonDecreasingBy (λ r. r.validity) rs
