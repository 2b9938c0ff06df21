-- The rows of a strip fit the first block, since the rows of a list do.
use Rattle.std.proofs.Common.{ℕ, ◌+◌, ◌*◌, length, sym, ap, ◌∙◌, List}
use Rattle.strip.specs.Strips.{strip_of}
use Rattle.showfile.specs.Spelling.{slot_block_count}
use Rattle.showfile.proofs.Blocks.{length_spelling}
use Rattle.showfile.proofs.storing.file_length.Goals as goal

pub returns : goal.returns
returns c =
    let blocks = c.slot_block_count.ensures ∙ ap (λ (slots : List ℕ). slot_block_count (length slots)) c.slots.ensures in
    ap (λ n. 512 * (1 + n)) blocks ∙ sym (length_spelling (strip_of c.args.strip.now) c.rows.ensures.closed.list.few)
