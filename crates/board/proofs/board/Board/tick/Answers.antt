use Rattle.board.proofs.Boards.{ticks}
use Rattle.board.proofs.board.Board.tick.Goals as goal

pub returns-in-Some-clause-promise : goal.returns-in-Some-clause-promise
returns-in-Some-clause-promise g c =
    ticks c.args.self.now.run c.in-Some.run' c.tick.new.self c.tick.result c.in-Some.is c.tick.ensures.value c.tick.ensures.after
