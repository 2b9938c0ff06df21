-- The rows that books hold.
use Rattle.std.specs.Prelude.{List, take}
use Rattle.books.specs.declared.row.Row.{Row}
use Rattle.books.specs.declared.books.Books.{Books}

-- the rows, first to last
abbrev pub rows_of : Books → List Row
rows_of b = take b.count b.rows
