use Rattle.std.proofs.Common.{ℕ, List, ap, rules, get_or, ◌∙◌}
use Rattle.strip.specs.Players.{position_of}
use Rattle.strip.specs.declared.work.RowWork.{RowWork}
use Rattle.strip.proofs.Steps.{moved, rows_written}
use Rattle.strip.proofs.player.PlayerPolicy.step.Goals as goal

pub returns-clause-moved : goal.returns-clause-moved
returns-clause-moved c =
    let p = position_of c.args.self.now in
    let m = moved p (get_or c.args.self.now.slots.now c.from.result 0) c.renew.new.rows c.run.new.rows c.next_place-self.result (ap (λ (n : ℕ). get_or c.args.self.now.slots.now n 0) c.from.ensures) (search rules) c.run.ensures c.next_place-self.ensures.value in
    ap (λ (ws : List RowWork). record p { place = c.next_place-self.result; rows = ws }) (rows_written c.args.self.now.count c.run.new.rows _ (c.run.auto.rows ∙ c.renew.auto.rows ∙ search rules)) ∙ m
