-- So many rows are read.
use Rattle.std.proofs.Common.{◌≡◌, length, map, take}
use Rattle.showfile.specs.Told.{row_read}
use Rattle.showfile.proofs.head.list_of.Given as goal

abbrev pub invariant-loop-k : goal.invariant-loop-k
invariant-loop-k l = (length l.given ≡ 16) × (take l.k l.given ≡ map row_read (take l.k l.row-items))
