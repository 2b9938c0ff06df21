use Rattle.std.proofs.Common.{◌≡◌, length, map, take, ap, sym, ◌∙◌, subst}
use Rattle.strip.specs.Held.{list_rows, loop_first, loop_last, slots_of}
use Rattle.strip.specs.Plays.{Plays}
use Rattle.strip.specs.Positions.{Position, resting, start_at, strip_course}
use Rattle.policy.proofs.Filled.{filled_all}
use Rattle.strip.proofs.Played.{well_closed_plays}
use Rattle.strip.proofs.player.Player.new.Goals as goal

pub returns-clause-plays : goal.returns-clause-plays
returns-clause-plays c =
    let s = c.args.strip.now in
    let given = c.rows-readings.result.now in
    let rows = filled_all resting c.loop-k.rows given c.loop-k.k c.loop-k-test.false c.loop-k.auto.k-end c.loop-k.invariant.filled ∙ ap (map resting) c.rows-readings.ensures.value in
    let start : ◌≡◌ {A = Position}
    (record { slots = c.slots.result.now; first = c.first.result; last = c.last.result; place = 0; rows = take (length c.rows-readings.result.now) c.loop-k.rows })
    (start_at (list_rows s) (slots_of s) (loop_first s) (loop_last s)) = cc in
    subst (λ (p : Position). Plays (list_rows s) (slots_of s) (loop_first s) (loop_last s) (strip_course p)) (sym start)
    (well_closed_plays (list_rows s) s.memory.now s.count s.first s.last s.law)
