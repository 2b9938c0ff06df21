-- The body of the first block is written part by part.
use Rattle.std.proofs.Common.{length, ap, ◌∙◌}
use Rattle.std.specs.List.{flat_map}
use Rattle.strip.specs.Strips.{strip_of}
use Rattle.showfile.specs.Blocks.{padded}
use Rattle.showfile.specs.Spelling.{row}
use Rattle.showfile.proofs.Written.{body_written}
use Rattle.showfile.proofs.storing.head_body.Goals as goal

pub returns-clause-body : goal.returns-clause-body
returns-clause-body c =
    let rows = c.rows-rows.ensures.value in
    let told = c.write_rows.ensures ∙ ap (λ r. padded 80 (flat_map row r)) rows in
    let numbers = c.copy_from_slice.ensures.after ∙ c.number_bytes.ensures in
    body_written (strip_of c.args.strip.now) _ c.write_rows.new.bytes c.copy_from_slice.new.self
    c.rows-rows.ensures.closed.list.few (ap length rows) told numbers
