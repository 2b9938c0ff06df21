use Rattle.std.proofs.Common.{List, ℕ, ◌+◌, ◌-◌, Err, MutBor, length, refl, sym, ap, ◌∙◌}
use Rattle.readings.specs.Lists.{rows_of}
use Rattle.deferral.specs.Laying.{lay}
use Rattle.strip.specs.Layings.{laid_limit, laid_slots, room_of}
use Rattle.strip.specs.Strips.{strip_of}
use Rattle.walk.specs.Walks.{granted}
use Rattle.showtext.proofs.StripsMade.{laid_within, not_closed}
use Rattle.showtext.proofs.strips.laid_strip.Goals as goal

pub returns-in-Err-clause-err : goal.returns-in-Err-clause-err
returns-in-Err-clause-err c =
    let rows = rows_of c.args.list.now in
    let room = ap (λ (m : MutBor (List ℕ)). length m.now) c.new-strip.ensures.memory ∙ c.told-memory in
    let laid = sym (laid_within (room_of c.new-strip.result) rows c.into.result room) ∙ c.in_ok-lay.ensures.ok in
    let told : List ℕ × ℕ = (laid_slots c.lay.new.self, laid_limit c.lay.new.self) in
    not_closed _ rows c.args.slots told (ap (lay rows) (sym c.into.ensures) ∙ laid) c.in_ok-lay.ensures.list c.in-Err.ensures.none
    ∙ ap Err (sym c.in-Err.ensures.err)

pub returns-in-Ok-clause-walked : goal.returns-in-Ok-clause-walked
returns-in-Ok-clause-walked c =
    let s = strip_of c.in-Ok.strip in
    (granted s.first (s.last + 1 - s.first), c.in-Ok.ensures.walks, refl)
