use Rattle.strip.specs.Strips.{strip_of}
use Rattle.showtext.proofs.Answered.{walked_each}
use Rattle.showtext.proofs.storing.made.Goals as goal

pub returns-clause-walked : goal.returns-clause-walked
returns-clause-walked c s e = walked_each c.args.script.now (strip_of c.in_ok-strip.strip) s c.in_ok-strip.ensures.ok c.in_ok-strip.ensures.walked e
