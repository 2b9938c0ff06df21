use Rattle.strip.proofs.Found.{nothing_laid}
use Rattle.strip.proofs.laying.LayingStrip.repeat.Goals as goal

pub returns-in-None-clause-none : goal.returns-in-None-clause-none
returns-in-None-clause-none c = rw c.in-None.is nothing_laid

pub returns-in-Some-clause-unrepeated : goal.returns-in-Some-clause-unrepeated
returns-in-Some-clause-unrepeated c = rw (← c.slots.ensures, c.in-Some.is) c.find_repeat.ensures.unrepeated
