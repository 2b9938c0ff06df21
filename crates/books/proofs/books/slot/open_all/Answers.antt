use Rattle.std.proofs.Common.{sym}
use Rattle.books.specs.Slots.{sampled}
use Rattle.books.proofs.Each.{each_same}
use Rattle.books.proofs.Named.{not_sampled}
use Rattle.books.proofs.books.slot.open_all.Goals as goal

pub returns-then-samples-eq0 : goal.returns-then-samples-eq0
returns-then-samples-eq0 c = sym (each_same (sampled c.args.samples) 0 c.args.rows.now (not_sampled c.args.samples c.if-samples-eq0.true))
