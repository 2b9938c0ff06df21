-- What is read is spelled so, and what is spelled so is read.
use Rattle.std.proofs.Common.{rules, ◌≡◌, length, sym, ap, ◌∙◌, arith}
use Rattle.std.specs.Prelude.{None, Some}
use Rattle.readings.specs.Refusals.{content}
use Rattle.showfile.specs.Reading.{file_refusal}
use Rattle.showfile.specs.Spelling.{spelling}
use Rattle.showfile.proofs.Bytes.{bytes_told}
use Rattle.showfile.proofs.Found.{found}
use Rattle.showfile.proofs.ReadBack.{is_read, not_refused}
use Rattle.showfile.proofs.reading.read.Goals as goal

pub returns-in-Err-clause-only : goal.returns-in-Err-clause-only
returns-in-Err-clause-only c = λ s is fits e.
    let refused : file_refusal c.args.file.now (length c.args.memory.now) ≡ Some (content c.in-Err.refusal) = search rules in
    absurd (not_refused c.args.file.now (length c.args.memory.now) s is fits e (content c.in-Err.refusal) refused)

pub returns-clause-spelled : goal.returns-clause-spelled
returns-clause-spelled c =
    let bytes = bytes_told c.args.file.now (λ i. omega (arith, c.type_inv.file i)) in
    let clear : file_refusal c.args.file.now (length c.args.memory.now) ≡ None = search rules in
    let is = found c.args.file.now (length c.args.memory.now) bytes clear in
    is.spelled ∙ ap spelling (sym c.load.ensures.strip)

pub returns-clause-only : goal.returns-clause-only
returns-clause-only c = λ s is fits e.
    c.load.ensures.strip ∙ is_read c.args.file.now (length c.args.memory.now) s is fits e
