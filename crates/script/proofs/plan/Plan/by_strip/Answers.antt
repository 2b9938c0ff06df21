use Rattle.std.proofs.Common.{map, arith}
use Rattle.books.specs.Rows.{come_on}
use Rattle.readings.specs.Lists.{rows_of}
use Rattle.strip.specs.Held.{loop_start}
use Rattle.periodic.specs.Meanings.{periodic_meaning}
use Rattle.strip.specs.Meanings.{strip_meaning}
use Rattle.strip.specs.Strips.{strip_of}
use Rattle.periodic.specs.Positions.{phases_of}
use Rattle.walk.proofs.BankWalks.{bank_granted}
use Rattle.script.proofs.StripsMade.{walked_for}
use Rattle.script.proofs.plan.Plan.by_strip.Goals as goal

pub returns-clause-granted : goal.returns-clause-granted
returns-clause-granted c =
    let rows = rows_of c.args.list in
    let strip = c.in_ok-strip in
    bank_granted periodic_meaning strip_meaning (phases_of c.new.result) (loop_start strip.strip) 2 (λ e. absurd (omega arith)) (map come_on rows) _ _
    (walked_for rows c.args.slots (strip_of strip.strip) strip.ensures.ok strip.ensures.walked)
