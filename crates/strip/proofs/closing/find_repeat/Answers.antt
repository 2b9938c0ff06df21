use Rattle.std.proofs.Common.{◌≡◌, ℕ, ◌≤◌, Ok, length, map, take, ap, sym, ◌∙◌, subst}
use Rattle.std.proofs.lemmas.List.{length-map, length-take-le}
use Rattle.readings.specs.Ranges.{WellMade}
use Rattle.books.specs.Rows.{come_on}
use Rattle.deferral.specs.Laying.{lay}
use Rattle.strip.specs.Closers.{closing_of}
use Rattle.strip.specs.Closings.{closing_from}
use Rattle.strip.proofs.Found.{limit_fits, named_below, told_from}
use Rattle.strip.proofs.closing.find_repeat.Goals as goal
use Rattle.strip.proofs.closing.find_repeat.Goals.{After-from}

-- the limit fits the slots
fits : (c : After-from) → c.from.result ≤ length c.args.slots.now
fits c =
    let well = subst WellMade c.list.ensures c.list.result.law in
    let made = subst (λ (n : ℕ). lay c.args.list.now (length c.args.slots.now) ≡ Ok (c.args.slots.now, n)) (sym c.from.ensures) c.requires in
    limit_fits c.args.list.now well c.args.slots.now c.from.result made

pub slice_bounds-new-end : goal.slice_bounds-new-end
slice_bounds-new-end c = sym (length-take-le c.from.result c.args.slots.now (fits c))

pub new-closer-requires-clause-named : goal.new-closer-requires-clause-named
new-closer-requires-clause-named c k d h =
    let well = subst WellMade c.list.ensures c.list.result.law in
    let made = subst (λ (n : ℕ). lay c.args.list.now (length c.args.slots.now) ≡ Ok (c.args.slots.now, n)) (sym c.from.ensures) c.requires in
    let count = ap length c.new-books.ensures.value ∙ length-map _ come_on ∙ ap length c.list.ensures in
    rw count (named_below c.args.list.now well c.args.slots.now c.from.result made k d h)

pub returns : goal.returns
returns c =
    let rows = c.new-books.ensures.value ∙ ap (map come_on) c.list.ensures in
    let slots = ap (λ (n : ℕ). take n c.args.slots.now) c.from.ensures in
    let start = closing_from c.args.slots.now c.args.limit (map come_on c.args.list.now) in
    let stands : closing_of c.new-closer.result ≡ start = cc in
    let t = told_from start (closing_of c.new-closer.result) c.args.limit c.first_repeat.result c.ok.result stands c.ok.ensures.value c.first_repeat.ensures.found c.first_repeat.ensures.only in
    record { found = t.found; value = t.value; none = t.none; unrepeated = t.unrepeated }
