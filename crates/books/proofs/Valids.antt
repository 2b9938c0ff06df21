-- A row is valid exactly when it is not stale.
use Rattle.std.proofs.Common.{◌≡◌, false}
use Rattle.std.proofs.lemmas.Bool.{le-leb, leb-true, not-false}
use Rattle.books.specs.declared.row.Row.{Row}
use Rattle.books.specs.Rows.{stale}
use Rattle.books.specs.Valid.{Valid, is_valid}

pub valid_not_stale : (r : Row) → Valid r → stale r ≡ false
valid_not_stale r v = rw (le-leb r.age r.reading.validity v)

pub not_stale_valid : (r : Row) → stale r ≡ false → Valid r
not_stale_valid r e = leb-true r.age r.reading.validity (not-false (is_valid r) e)
