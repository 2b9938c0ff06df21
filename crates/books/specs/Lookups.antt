-- What can be asked of the rows of books.
use Rattle.std.specs.Prelude.{◌≡◌, ℕ, All, List, None, Option, ◌==◌, find}
use Rattle.books.specs.declared.row.Row.{Row}

-- the first row with an id, if there is one
abbrev pub row_of : List Row → ℕ → Option Row
row_of rs id = find (λ r. r.reading.id == id) rs

-- no job is open
abbrev pub Idle : List Row → Type 0
Idle rs = All (λ r. r.job ≡ None) rs
