-- What a closed strip holds, without its memory.
use Rattle.std.proofs.Common.{◌≡◌, ℕ, ◌≤◌, List, length, take, All, sym, subst, arith}
use Rattle.std.proofs.lemmas.List.{length-take-le, take_all}
use Rattle.readings.specs.Ranges.{WellMade}
use Rattle.strip.specs.Held.{list_rows}
use Rattle.strip.specs.Strips.{IsClosed, strip_of}
use Rattle.strip.specs.WellClosed.{WellClosed}
use Rattle.strip.specs.declared.closed.ClosedStrip.{ClosedStrip}

-- the bytes past the slots do not matter
slots_alone : (rows : ℕ) (memory : List ℕ) (n first last : ℕ) → WellClosed rows memory n first last
    → WellClosed rows (take n memory) (length (take n memory)) first last
slots_alone rows memory n first last w =
    let long : length (take n memory) ≡ n = length-take-le n memory w.room in
    record {
      some = omega (arith, long, w.some);
      few = omega (arith, long, w.few);
      room = omega arith;
      from_one = w.from_one;
      ordered = w.ordered;
      inside = omega (arith, long, w.inside);
      named = subst (All (λ row. row ≤ rows)) (sym (take_all (length (take n memory)) (take n memory) (omega arith))) w.named;
    }

pub closed_for : (c : ClosedStrip) → WellMade (list_rows c)
    → WellClosed (length c.list) c.memory.now c.count c.first c.last → IsClosed (strip_of c)
closed_for c list w =
    record { list = list; closed = slots_alone (length c.list) c.memory.now c.count c.first c.last w }
