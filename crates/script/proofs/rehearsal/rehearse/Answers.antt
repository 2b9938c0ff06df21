use Rattle.script.proofs.LawsHold.{calls_last, tick_replies}
use Rattle.script.proofs.rehearsal.rehearse.Goals as goal

pub returns-then-text-gt-LONGEST_SCRIPT-clause-calls_last : goal.returns-then-text-gt-LONGEST_SCRIPT-clause-calls_last
returns-then-text-gt-LONGEST_SCRIPT-clause-calls_last g c answers x = calls_last c.args.text.now answers x

pub returns-then-text-gt-LONGEST_SCRIPT-clause-ticks : goal.returns-then-text-gt-LONGEST_SCRIPT-clause-ticks
returns-then-text-gt-LONGEST_SCRIPT-clause-ticks g c answers x = tick_replies c.args.text.now answers x

pub returns-else-text-gt-LONGEST_SCRIPT-clause-calls_last : goal.returns-else-text-gt-LONGEST_SCRIPT-clause-calls_last
returns-else-text-gt-LONGEST_SCRIPT-clause-calls_last g c answers x = calls_last c.args.text.now answers x

pub returns-else-text-gt-LONGEST_SCRIPT-clause-ticks : goal.returns-else-text-gt-LONGEST_SCRIPT-clause-ticks
returns-else-text-gt-LONGEST_SCRIPT-clause-ticks g c answers x = tick_replies c.args.text.now answers x
