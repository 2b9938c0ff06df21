-- Rows are written one by one.
use Rattle.std.proofs.Common.{◌≡◌, take}
use Rattle.std.specs.List.{flat_map}
use Rattle.showfile.specs.Blocks.{padded}
use Rattle.showfile.specs.Spelling.{row}
use Rattle.showfile.proofs.storing.write_rows.Given as goal

-- the rows so far are written, with zeros behind them
abbrev pub invariant-loop-k : goal.invariant-loop-k
invariant-loop-k l = l.bytes ≡ padded 80 (flat_map row (take l.k l.rows))
