-- The parts of a block are written into zeros.
use Rattle.std.proofs.Common.{replicate, ap, ◌∙◌, arith}
use Rattle.showfile.proofs.Written.{parts_written}
use Rattle.showfile.proofs.block.write_parts.Goals as goal

pub returns : goal.returns
returns c =
    let zeros = c.fill.ensures.after (λ _ e. e) ∙ ap (λ n. replicate n 0) c.requires.whole in
    let told = c.copy_from_slice.ensures.after ∙ c.to_be_bytes.ensures in
    parts_written 506 c.args.kind c.args.number c.fill.new.self c.copy_from_slice.new.self c.copy_from_slice-2.new.self
    c.args.body.now _ zeros told c.copy_from_slice-2.ensures.after (omega arith)
