use Rattle.std.proofs.Common.{◌≡◌, rules}
use Rattle.std.proofs.lemmas.Slice.Eq.{text_from_reads}
use Rattle.std.specs.Prelude.{codes}
use Rattle.lines.proofs.command.plan_line.Goals as goal

pub returns-in-reading : goal.returns-in-reading
returns-in-reading c =
    let word : c.args.word.now ≡ codes "reading" = search (rules, text_from_reads) in
    rw word c.reading_line.ensures
