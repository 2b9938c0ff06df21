-- What is asked of the parts of a file that have passed so far.
use Rattle.std.proofs.Common.{◌≡◌, ℕ, ◌≤◌, List, map, length, sym, ap, subst, ◌∙◌, arith, rules}
use Rattle.readings.specs.Lists.{rows_of}
use Rattle.readings.specs.Proposals.{kept}
use Rattle.showfile.specs.Told.{head, rows_read}
use Rattle.showfile.proofs.RowsCut.{rows_length}
use Rattle.showfile.proofs.Blocks.{most_blocks}
use Rattle.showfile.proofs.reading.check.Goals as goal

pub check_blocks-requires : goal.check_blocks-requires
check_blocks-requires c =
    subst (λ (bs : List (List ℕ)). length bs ≤ 67) (sym c.blocks-blocks.ensures)
    (most_blocks c.args.file.now (sym c.if-not-is_file_length.ensures))

pub check_rest-requires-clause-rows : goal.check_rest-requires-clause-rows
check_rest-requires-clause-rows c =
    let rows : rows_of c.in_ok-head.head.list ≡ map kept (rows_read (head c.blocks-blocks.result.now)) = search rules in
    let count = ap length rows ∙ rows_length (head c.blocks-blocks.result.now) in
    omega (arith, c.in_ok-head.head.list.law.few, count)
