use Rattle.std.proofs.Common.{rules}
use Rattle.strip.specs.Players.{position_of}
use Rattle.strip.proofs.Steps.{compared}
use Rattle.strip.proofs.player.PlayerPolicy.same.Goals as goal

pub returns-then-same_numbers-clause-exact : goal.returns-then-same_numbers-clause-exact
returns-then-same_numbers-clause-exact c = compared (position_of c.args.self.now) (position_of c.args.other.now) c.eq.result (search rules)

pub returns-else-same_numbers-clause-exact : goal.returns-else-same_numbers-clause-exact
returns-else-same_numbers-clause-exact c = compared (position_of c.args.self.now) (position_of c.args.other.now) c.same_numbers.result (search rules)
