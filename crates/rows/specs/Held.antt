-- The rows that are held, and what stands past the last.
use Rattle.std.specs.Prelude.{List, take, drop}
use Rattle.rows.specs.declared.Rows.{Rows}

-- the rows, first to last
abbrev pub rows_of : {T : Type 0} → Rows T → List T
rows_of r = take r.count r.items

-- the memory past the last row
abbrev pub past : {T : Type 0} → Rows T → List T
past r = drop r.count r.items
