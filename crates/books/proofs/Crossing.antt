-- Books after a crossing are fresh where no row comes over with an age above its new validity.
use Rattle.std.proofs.Common.{◌≡◌, ℕ, ◌<◌, ◌≤◌, List, length, get_or, Some, None, Option, refl, sym, ap, ◌∙◌, arith}
use Rattle.std.proofs.lemmas.List.{get_or-map, length-map}
use Rattle.std.proofs.lemmas.List.Elements.{All-from_get_or}
use Rattle.readings.specs.Firsts.{first_of}
use Rattle.readings.specs.Ranges.{WellMade, blank}
use Rattle.readings.specs.declared.reading.Reading.{Reading}
use Rattle.readings.proofs.Firsts.{first_clear}
use Rattle.books.specs.Crossings.{carry, crossed, crossing_fault, late_fault}
use Rattle.books.specs.Fresh.{Fresh}
use Rattle.books.specs.Lookups.{row_of}
use Rattle.books.specs.Rows.{blank_row, job_age, stale}
use Rattle.books.specs.declared.fault.Fault.{Fault}
use Rattle.books.specs.declared.row.Row.{Row}
use Rattle.books.specs.Valid.{Valid}
use Rattle.books.proofs.Keeps.{clear_flag}
use Rattle.books.proofs.Valids.{not_stale_valid}

pub carried_reading : (d : Reading) (o : Option Row) → (carry d o).reading ≡ d
carried_reading d None = refl
carried_reading d (Some r) = refl

carried_job : (d : Reading) (o : Option Row) → (carry d o).job ≡ None
carried_job d None = refl
carried_job d (Some r) = refl

module _ (old : List Row) (new : List Reading) (k : ℕ) (h : k < length (crossed old new)) where
  inside : k < length new
  inside = omega (arith, length-map new (λ (d : Reading). carry d (row_of old d.id)))

  pub crossed_row : get_or (crossed old new) k blank_row ≡ carry (get_or new k blank) (row_of old (get_or new k blank).id)
  crossed_row = get_or-map (λ (d : Reading). carry d (row_of old d.id)) new k blank blank_row inside

  pub crossed_reading : (get_or (crossed old new) k blank_row).reading ≡ get_or new k blank
  crossed_reading = ap (λ (r : Row). r.reading) crossed_row ∙ carried_reading (get_or new k blank) (row_of old (get_or new k blank).id)

  pub crossed_job : (get_or (crossed old new) k blank_row).job ≡ None
  crossed_job = ap (λ (r : Row). r.job) crossed_row ∙ carried_job (get_or new k blank) (row_of old (get_or new k blank).id)

pub crossed_fresh : (old : List Row) (new : List Reading) → WellMade new → first_of (late_fault (crossed old new)) 0 (length (crossed old new)) ≡ None → Fresh (crossed old new)
crossed_fresh old new w clear =
    let rs : List Row = crossed old new in
    record {
      few = let l = length-map new (λ (d : Reading). carry d (row_of old d.id)) in let f = w.few in omega arith;
      validities = All-from_get_or (λ r. r.reading.validity ≤ 4095) rs blank_row (λ k h.
          let v = ap (λ (d : Reading). d.validity) (crossed_reading old new k h) in
          let i = (w.validities k blank (inside old new k h)).1 in
          omega arith);
      ages = All-from_get_or Valid rs blank_row (λ k h.
          let r : Row = get_or rs k blank_row in
          not_stale_valid r (clear_flag (stale r) _ (first_clear (late_fault rs) 0 (length rs) clear k (omega arith) (omega arith))));
      jobs = All-from_get_or (λ r. job_age r.job ≤ r.age) rs blank_row (λ k h.
          let j = ap job_age (crossed_job old new k h) in omega arith);
    }

-- the first row at fault among rows that all came over
pub fault_of : (old : List Row) (new : List Reading) (rows : List Row) (o : Option Fault) → rows ≡ crossed old new
    → o ≡ first_of (late_fault rows) 0 (length rows) → crossing_fault old new ≡ o
fault_of old new rows o e f = sym (f ∙ ap (λ (rs : List Row). first_of (late_fault rs) 0 (length rs)) e)
