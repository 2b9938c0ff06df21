use Rattle.std.proofs.Common.{Ok, string_bytes, sym, ap, ◌∙◌}
use Rattle.strip.specs.Strips.{strip_of}
use Rattle.showfile.specs.Reading.{reading}
use Rattle.showtext.proofs.Answered.{one_text}
use Rattle.showtext.proofs.telling.write_file.Goals as goal

pub returns-in-Ok-clause-only : goal.returns-in-Ok-clause-only
returns-in-Ok-clause-only c =
    let file = c.args.file.now in
    one_text c.write_walked.result (string_bytes c.write_walked.new.text) (reading file 32767) (Ok (strip_of c.in-Ok.strip))
    (sym (ap (reading file) c.told-memory) ∙ c.in-Ok.ensures.ok) c.write_walked.ensures.only
