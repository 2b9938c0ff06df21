use Rattle.std.proofs.Common.{◌≡◌, rules}
use Rattle.std.proofs.lemmas.Slice.Eq.{text_from_reads}
use Rattle.std.specs.Prelude.{codes}
use Rattle.lines.proofs.command.call_line.Goals as goal

pub returns-in-switch : goal.returns-in-switch
returns-in-switch c =
    let word : c.args.word.now ≡ codes "switch" = search (rules, text_from_reads) in
    rw word c.switch_line.ensures
