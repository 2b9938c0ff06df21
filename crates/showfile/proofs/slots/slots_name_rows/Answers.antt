-- All slots name one of the first rows where the last that they name is one.
use Rattle.std.proofs.Common.{ap, ◌∙◌, nat_le}
use Rattle.showfile.proofs.Named.{last_fits}
use Rattle.showfile.proofs.slots.slots_name_rows.Goals as goal

pub returns : goal.returns
returns c = ap (λ last. nat_le last c.args.rows) c.last_named.ensures ∙ last_fits c.args.slots.now c.args.rows
