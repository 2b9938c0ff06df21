-- A crossing that passes the test leads to steady books.
use Rattle.std.proofs.Common.{false, ◌≤◌, ◌≡◌, ℕ, List, map, ap, arith}
use Rattle.std.proofs.lemmas.List.{length-map}
use Rattle.std.proofs.lemmas.List.Elements.{All-from_get_or}
use Rattle.policy.specs.Course.{Course}
use Rattle.readings.specs.Ranges.{WellMade, blank}
use Rattle.readings.specs.declared.reading.Reading.{Reading}
use Rattle.books.specs.Crossings.{carry, crossed}
use Rattle.books.specs.Lookups.{row_of}
use Rattle.books.specs.Rows.{blank_row, come_on, finished}
use Rattle.books.specs.declared.row.Row.{Row}
use Rattle.books.proofs.Crossing.{crossed_fresh, crossed_job, crossed_reading}
use Rattle.walk.specs.Crossings.{MayCross}
use Rattle.walk.specs.Acceptance.{Accepts}
use Rattle.walk.proofs.Faultless.{crossed_clear, crossed_faultless}
use Rattle.board.specs.Lasting.{Steady}

pub crossed_steady : (old : List Row) (new : List Reading) (c : Course) (finishes : List ℕ) → WellMade new → Accepts c (map come_on new) finishes → MayCross old new finishes
    → Steady c (crossed old new)
crossed_steady old new c finishes well accepts test =
    record {
      faultless = crossed_faultless old new c finishes accepts test;
      fresh = crossed_fresh old new well (crossed_clear old new c finishes accepts test);
      works = All-from_get_or (λ (r : Row). 1 ≤ r.reading.work) (crossed old new) blank_row (λ k h.
          let l = length-map new (λ (d : Reading). carry d (row_of old d.id)) in
          let w = (well.works k blank (omega arith)).0 in
          let e = ap (λ (d : Reading). d.work) (crossed_reading old new k h) in
          omega arith);
      undone = All-from_get_or (λ (r : Row). finished r.job ≡ false) (crossed old new) blank_row (λ k h. ap finished (crossed_job old new k h));
    }
