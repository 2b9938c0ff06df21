use Rattle.std.proofs.Common.{is_some, not, ap, ◌∙◌}
use Rattle.std.proofs.lemmas.Bool.{both_ways}
use Rattle.board.proofs.Boards.{stops}
use Rattle.board.proofs.board.Board.stop.Goals as goal

pub returns-clause-promise : goal.returns-clause-promise
returns-clause-promise g c =
    stops c.args.self.now.run (λ e. both_ways (is_some c.args.self.now.run) (ap is_some e) (c.is_none.ensures ∙ ap not c.if-is_none.false))
