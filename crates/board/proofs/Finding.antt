-- Rows found by their ids, in a list of readings and in books after a tick or a crossing, and the row that the number
-- of a tick's reply names.
use Rattle.std.proofs.Common.{◌≡◌, ℕ, zero, suc, ◌+◌, ◌<◌, ◌≤◌, Bool, true, false, eqb, List, [], ◌∷◌, map, length, get_or, Some, is_some, unwrap_or, sym, refl, ap, ◌∙◌, inl, inr, arith}
use Rattle.std.proofs.lemmas.Bool.{cases_Bool, eq-eqb, eqb-true, ne_eqb, false_from_ne_true}
use Rattle.readings.specs.declared.reading.Reading.{Reading}
use Rattle.books.specs.Crossings.{carry, crossed}
use Rattle.books.specs.Lookups.{row_of}
use Rattle.books.specs.Rows.{blank_row}
use Rattle.books.specs.Slots.{each_from, lowest_from}
use Rattle.books.specs.declared.row.Row.{Row}
use Rattle.books.proofs.Crossing.{carried_reading}
use Rattle.board.specs.Ages.{place_from}

-- the readings of rows
abbrev pub readings : List Row → List Reading
readings rs = map (λ (r : Row). r.reading) rs

-- an id is found in both or in neither
pub found_both : (k : ℕ) (rs : List Row) (id : ℕ) → is_some (place_from k (readings rs) id) ≡ is_some (row_of rs id)
found_both k [] id = refl
found_both k (r ∷ rs) id =
    elim (cases_Bool (eqb r.reading.id id)) [
      | inl t ↦ rw t
      | inr f ↦ rw f (found_both (k + 1) rs id)
    ]

-- rows that were taken by their places and kept their readings
module _ (f : ℕ → Row → Row) (keeps : (k : ℕ) (r : Row) → (f k r).reading ≡ r.reading) where
  -- the readings are still the same
  pub each_readings : (k : ℕ) (rs : List Row) → readings (each_from f k rs) ≡ readings rs
  each_readings k [] = refl
  each_readings k (r ∷ rs) = let a = keeps k r in let b = each_readings (k + 1) rs in cc

  -- one that is found by its id is the row that was found, at its place
  pub record Found (k : ℕ) (rs : List Row) (id : ℕ) (x : Row) : Type 0 where
    pub place : ℕ
    pub inside : place < length rs
    pub counted : place_from k (readings rs) id ≡ Some (k + place)
    pub before : row_of rs id ≡ Some (get_or rs place blank_row)
    pub after : x ≡ f (k + place) (get_or rs place blank_row)

  pub find_each : (k : ℕ) (rs : List Row) (id : ℕ) (x : Row) → row_of (each_from f k rs) id ≡ Some x → Found k rs id x
  find_each k [] id x e = let z : ◌≡◌ {A = ℕ} 0 1 = cc in absurd (omega arith)
  find_each k (r ∷ rs) id x e =
      let same = keeps k r in
      let first : k + 0 ≡ k = omega arith in
      elim (cases_Bool (eqb r.reading.id id)) [
        | inl t ↦
            let here : eqb (f k r).reading.id id ≡ true = ap (λ (d : Reading). eqb d.id id) same ∙ t in
            let is : Some (f k r) ≡ Some x = (rw here at e) in
            record { place = 0; inside = omega arith; counted = rw (t, first); before = rw t; after = rw first cc }
        | inr n ↦
            let not_here : eqb (f k r).reading.id id ≡ false = ap (λ (d : Reading). eqb d.id id) same ∙ n in
            let i = find_each (k + 1) rs id x (rw not_here at e) in
            let next : k + suc i.place ≡ k + 1 + i.place = omega arith in
            record {
              place = suc i.place;
              inside = omega (arith, i.inside);
              counted = rw (n, next) i.counted;
              before = rw n i.before;
              after = rw next i.after;
            }
      ]

-- a crossing's rows are those of the new list
pub crossed_readings : (old : List Row) (new : List Reading) → new ≡ readings (crossed old new)
crossed_readings old [] = refl
crossed_readings old (d ∷ ds) = let a = carried_reading d (row_of old d.id) in let b = crossed_readings old ds in cc

-- one that is found by its id is a reading of the new list, carried over from what the old books have of that id
pub record Comes (old : List Row) (new : List Reading) (id : ℕ) (x : Row) : Type 0 where
  pub reading : Reading
  pub is : x ≡ carry reading (row_of old id)
  pub listed : (k : ℕ) → is_some (place_from k new id) ≡ true

pub find_crossed : (old : List Row) (new : List Reading) (id : ℕ) (x : Row) → row_of (crossed old new) id ≡ Some x → Comes old new id x
find_crossed old [] id x e = let z : ◌≡◌ {A = ℕ} 0 1 = cc in absurd (omega arith)
find_crossed old (d ∷ ds) id x e =
    let same : (carry d (row_of old d.id)).reading ≡ d = carried_reading d (row_of old d.id) in
    elim (cases_Bool (eqb d.id id)) [
      | inl t ↦
          let here : eqb (carry d (row_of old d.id)).reading.id id ≡ true = ap (λ (r : Reading). eqb r.id id) same ∙ t in
          let is : Some (carry d (row_of old d.id)) ≡ Some x = (rw here at e) in
          let i = eqb-true d.id id t in
          record { reading = d; is = cc; listed = λ k. rw t }
      | inr n ↦
          let not_here : eqb (carry d (row_of old d.id)).reading.id id ≡ false = ap (λ (r : Reading). eqb r.id id) same ∙ n in
          let i = find_crossed old ds id x (rw not_here at e) in
          record { reading = i.reading; is = i.is; listed = λ k. rw n (i.listed (k + 1)) }
    ]

-- the number of the lowest row that passes a test, or 0
module _ (p : ℕ → Row → Bool) where
  abbrev pub number : ℕ → List Row → ℕ
  number k rs = unwrap_or (lowest_from p k rs) 0

  -- none is above the first row
  not_above : (k : ℕ) (rs : List Row) (n : ℕ) → number k rs ≡ n → n ≤ k → n ≡ 0
  not_above k [] n e h = sym e
  not_above k (r ∷ rs) n e h =
      elim (cases_Bool (p k r)) [
        | inl t ↦ let i : k + 1 ≡ n = (rw t at e) in absurd (omega arith)
        | inr f ↦ not_above (k + 1) rs n (rw f at e) (omega arith)
      ]

  -- where no other row than number m passes, it names a row just where that row passes
  pub number_names : (m k : ℕ) (rs : List Row) → ((j : ℕ) → j < length rs → p (k + j) (get_or rs j blank_row) ≡ true → m ≡ k + j + 1)
      → (j : ℕ) → j < length rs → eqb (number k rs) (k + j + 1) ≡ p (k + j) (get_or rs j blank_row)
  number_names m k [] only j h = absurd (omega arith)
  number_names m k (r ∷ rs) only zero h =
      let first : k + 0 ≡ k = omega arith in
      rw first (elim (cases_Bool (p k r)) [
        | inl t ↦ rw t (eq-eqb (k + 1) (k + 1) refl)
        | inr f ↦ rw f (ne_eqb (number (k + 1) rs) (k + 1) (λ e. let z = not_above (k + 1) rs (k + 1) e (omega arith) in absurd (omega arith)))
      ])
  number_names m k (r ∷ rs) only (suc j) h =
      let next : k + suc j ≡ k + 1 + j = omega arith in
      elim (cases_Bool (p k r)) [
        | inl t ↦
            let here : m ≡ k + 0 + 1 = only 0 (omega arith) (let first : k + 0 ≡ k = omega arith in rw first t) in
            rw t (ne_eqb (k + 1) (k + suc j + 1) (λ z. absurd (omega arith))
            ∙ sym (false_from_ne_true (p (k + suc j) (get_or rs j blank_row)) (λ z. let i = only (suc j) h z in absurd (omega arith))))
        | inr f ↦
            rw (f, next) (number_names m (k + 1) rs (λ i l e. let up : k + suc i ≡ k + 1 + i = omega arith in let z = only (suc i) (omega arith) (rw up e) in omega arith) j (omega arith))
      ]
