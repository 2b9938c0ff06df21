-- What the rows of any books hold.
use Rattle.std.specs.Prelude.{◌≤◌, All, List, length}
use Rattle.books.specs.declared.row.Row.{Row}
use Rattle.books.specs.Rows.{job_age}
use Rattle.books.specs.Valid.{AllValid}

-- at most 16 rows, no validity above 4,095, all rows valid, no job older than its row's age
pub record Fresh (rs : List Row) : Type 0 where
  pub few : length rs ≤ 16
  pub validities : All (λ r. r.reading.validity ≤ 4095) rs
  pub ages : AllValid rs
  pub jobs : All (λ r. job_age r.job ≤ r.age) rs
