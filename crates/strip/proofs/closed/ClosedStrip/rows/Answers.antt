-- A strip keeps a list, and its slots are closed for it.
use Rattle.std.proofs.Common.{rules, ◌≡◌, subst}
use Rattle.readings.specs.Ranges.{WellMade}
use Rattle.strip.specs.Held.{list_rows}
use Rattle.strip.proofs.ClosedAs.{closed_for}
use Rattle.strip.proofs.closed.ClosedStrip.rows.Goals as goal

pub returns-clause-closed : goal.returns-clause-closed
returns-clause-closed c =
    let same : c.rows.result.now ≡ list_rows c.args.self.now = search rules in
    closed_for c.args.self.now (subst WellMade same c.rows.ensures.law) c.args.self.now.law
