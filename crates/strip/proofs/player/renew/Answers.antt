use Rattle.std.proofs.Common.{◌≡◌, ◌+◌, ◌-◌, get_or, sym, ◌∙◌, arith}
use Rattle.strip.specs.Positions.{no_work}
use Rattle.strip.proofs.Steps.{none_sampled, one_sampled, sampled_busy, sampled_rests}
use Rattle.strip.proofs.player.renew.Goals as goal

pub returns-then-work-eq0 : goal.returns-then-work-eq0
returns-then-work-eq0 c =
    let k = c.from.result - 1 in
    let named : c.args.row ≡ k + 1 = omega arith in
    let rests = sampled_rests c.args.place c.args.row k (get_or c.args.rows.now k no_work) c.if-place-eq0.false named c.if-work-eq0.true in
    one_sampled c.args.place c.args.row k c.args.rows.now c.renew-then-work-eq0.new.self c.if-place-eq0.false named (omega arith) (c.renew-then-work-eq0.ensures ∙ sym rests)

pub returns-else-work-eq0 : goal.returns-else-work-eq0
returns-else-work-eq0 c =
    let k = c.from.result - 1 in
    let named : c.args.row ≡ k + 1 = omega arith in
    let busy = sampled_busy c.args.place c.args.row k (get_or c.args.rows.now k no_work) c.if-place-eq0.false named c.if-work-eq0.false in
    one_sampled c.args.place c.args.row k c.args.rows.now (get_or c.args.rows.now k no_work) c.if-place-eq0.false named (omega arith) (sym busy)

pub returns-else-row-gt0 : goal.returns-else-row-gt0
returns-else-row-gt0 c = none_sampled c.args.place c.args.row c.args.rows.now c.if-place-eq0.false (omega arith)
