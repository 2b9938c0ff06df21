-- When rows are valid, now and in slots to come.
use Rattle.std.specs.Prelude.{ℕ, ◌+◌, ◌≤◌, Bool, All, List, nat_le}
use Rattle.books.specs.declared.row.Row.{Row}

-- the age of a row is at most its validity
abbrev pub Valid : Row → Type 0
Valid r = r.age ≤ r.reading.validity

-- the same as a test
abbrev pub is_valid : Row → Bool
is_valid r = nat_le r.age r.reading.validity

-- every row is valid
abbrev pub AllValid : List Row → Type 0
AllValid rs = All Valid rs

-- a row whose age has grown by n slots
abbrev pub aged : ℕ → Row → Row
aged n r = record r { age = r.age + n }

-- all rows stay valid n slots more
abbrev pub Spare : List Row → ℕ → Type 0
Spare rs n = All (λ r. Valid (aged n r)) rs
