-- The law of ages, for books whose rows came on together.
use Rattle.std.proofs.Common.{◌≡◌, ℕ, zero, suc, ◌<◌, List, map, length, get_or, None, sym, refl, ap, subst, add-one, arith}
use Rattle.std.proofs.lemmas.List.{length-map}
use Rattle.policy.specs.Course.{Course}
use Rattle.readings.specs.declared.reading.Reading.{Reading}
use Rattle.readings.specs.Ranges.{WellMade, blank}
use Rattle.books.specs.declared.row.Row.{Row}
use Rattle.books.specs.Ages.{AgesCounted, StayEqual}
use Rattle.books.specs.Rows.{blank_row, come_on}
use Rattle.books.specs.Slots.{books_at, fault_at}
use Rattle.books.proofs.Began.{began_row}
use Rattle.books.proofs.Counted.{Tracks, age_means, tracks_none, tracks_on}
use Rattle.books.proofs.Keeps.{slot_row}
use Rattle.books.proofs.RowRuns.{books_length, run_works, sampled_closed}

module _ (ds : List Reading) (well : WellMade ds) (c : Course) (k : ℕ) (h : k < length ds) where
  abbrev rows : List Row
  rows = map come_on ds

  abbrev work : ℕ
  work = (get_or ds k blank).work

  inside : k < length rows
  inside = omega (arith, length-map ds come_on)

  tracked : (n : ℕ) → ((m : ℕ) → m < n → fault_at c rows m ≡ None) → Tracks c k work (well.works k blank h).0 n (get_or (books_at c rows n) k blank_row)
  tracked zero calm = subst (Tracks c k work (well.works k blank h).0 0) (sym (began_row ds k h)) (tracks_none c k work (well.works k blank h).0 (get_or ds k blank) refl)
  tracked (suc n) calm =
      let bs : List Row = books_at c rows n in
      let r : Row = get_or bs k blank_row in
      let l = books_length c rows n in
      let m = length-map ds come_on in
      let few = well.few in
      let here = calm n (omega arith) in
      let t = tracks_on c k work (well.works k blank h).0 n r (tracked n (λ m i. calm m (omega arith)))
      (sampled_closed (c n) bs (omega arith) here k (omega arith)) (run_works (c n) bs here k (omega arith)) in
      let e = slot_row (c n) bs k (omega arith) in
      rw (← add-one, e) t

pub ages_counted : (ds : List Reading) → WellMade ds → AgesCounted (map come_on ds)
ages_counted ds well c n calm k h =
    let i : k < length ds = omega (arith, length-map ds come_on) in
    age_means c k (get_or ds k blank).work (well.works k blank i).0 n _ (tracked ds well c k i n calm)

-- equal books stay equal under equal answers
books_equal : (c d : Course) (rs : List Row) → ((n : ℕ) → c n ≡ d n) → (n : ℕ) → books_at c rs n ≡ books_at d rs n
books_equal c d rs same zero = refl
books_equal c d rs same (suc n) = let a = same n in let b = books_equal c d rs same n in cc

pub stay_equal : (rs qs : List Row) → rs ≡ qs → StayEqual rs qs
stay_equal rs qs e c d same n =
    let a = same n in
    let b = books_equal c d rs same n in
    let f = ap (λ (ps : List Row). books_at d ps n) e in
    let g : books_at c rs n ≡ books_at d qs n = cc in
    (g, cc)
