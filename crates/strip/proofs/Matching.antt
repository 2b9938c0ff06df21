-- The work that a strip keeps of each row is what the books keep of it.
use Rattle.std.proofs.Common.{◌≡◌, ℕ, ◌+◌, ◌-◌, ◌<◌, ◌≤◌, All, Bool, true, false, ◌&&◌, ◌||◌, cond, eqb, Some, None, Option, is_none, List, length, map, get_or, ap, sym, refl, ◌∙◌, inl, inr, arith}
use Rattle.std.proofs.lemmas.Bool.{cases_Bool, cases_lt, eq-eqb, eqb-false, eqb-true, ne_eqb}
use Rattle.std.proofs.lemmas.List.{ext_get_or, get_or-map, get_or_past, length-map}
use Rattle.policy.specs.Course.{names}
use Rattle.readings.specs.Ranges.{WorkRange, blank}
use Rattle.readings.specs.declared.reading.Reading.{Reading}
use Rattle.books.proofs.Each.{get_or_each, length_each}
use Rattle.books.specs.Rows.{blank_row, closed, closed_by, come_on, grown, opened, ran}
use Rattle.books.specs.Slots.{each_from, row_after, slot}
use Rattle.books.specs.declared.row.Job.{Job}
use Rattle.books.specs.declared.row.Row.{Row}
use Rattle.strip.proofs.Bits.{names_samples}
use Rattle.strip.specs.Answers.{strip_samples}
use Rattle.strip.specs.Positions.{no_work, resting, work_after}
use Rattle.strip.specs.declared.work.RowWork.{RowWork}

-- the slots of work left of an open job, at least one, or 0 with none
abbrev pub LeftOf : Option Job → ℕ → Type 0
LeftOf None left = left ≡ 0
LeftOf (Some j) left = (left ≡ j.left) × (1 ≤ left)

-- a row of the player has the work length of a row of the books, and the work left of its job
pub record RowMatches (w : RowWork) (r : Row) : Type 0 where
  pub work : w.work ≡ r.reading.work
  pub some : 1 ≤ r.reading.work
  pub left : LeftOf r.job w.left

-- no job is open exactly where no work is left
left_rests : (o : Option Job) (left : ℕ) → LeftOf o left → eqb left 0 ≡ is_none o
left_rests None left h = eq-eqb left 0 h
left_rests (Some j) left h = ne_eqb left 0 (λ z. omega arith)

-- a job tells the work that is left
left_one : (o : Option Job) (left other : ℕ) → LeftOf o left → LeftOf o other → left ≡ other
left_one None left other h g = h ∙ sym g
left_one (Some j) left other h g = h.0 ∙ sym g.0

-- a row through a slot, by whether it is sampled and whether it is run
abbrev after_by : Bool → Bool → Row → Row
after_by samp run r = closed (grown (cond run (ran (cond samp (opened r) r)) (cond samp (opened r) r)))

-- a job that closes where no work is left
closes : (rd : Reading) (shown : Bool) (age : ℕ) (j : Job) (left : ℕ) → left ≡ j.left → LeftOf (closed (record { reading = rd; shown = shown; age = age; job = Some j })).job left
closes rd shown age j left e =
    elim (cases_Bool (eqb j.left 0)) [
      | inl t ↦ let z = eqb-true j.left 0 t in rw t (omega arith)
      | inr f ↦ let z = eqb-false j.left 0 f in rw f (e, omega arith)
    ]

-- the work left after a slot
left_on : (rd : Reading) (shown : Bool) (age : ℕ) (o : Option Job) (left : ℕ) (samp run : Bool) → 1 ≤ rd.work → LeftOf o left
    → LeftOf (after_by samp run (record { reading = rd; shown = shown; age = age; job = o })).job (cond samp rd.work left - cond run 1 0)
left_on rd shown age None left true true some h = closes rd shown (age + 1) _ _ refl
left_on rd shown age None left true false some h = closes rd shown (age + 1) _ _ (omega arith)
left_on rd shown age None left false true some h = omega arith
left_on rd shown age None left false false some h = omega arith
left_on rd shown age (Some j) left true true some h = closes rd shown (age + 1) _ _ refl
left_on rd shown age (Some j) left true false some h = closes rd shown (age + 1) _ _ (omega arith)
left_on rd shown age (Some j) left false true some h = closes rd shown (age + 1) _ _ (omega (arith, h.0))
left_on rd shown age (Some j) left false false some h = closes rd shown (age + 1) _ _ (omega (arith, h.0))

-- closing leaves the reading of a row
reading_closed : (r : Row) (o : Option Job) → (closed_by r o).reading ≡ r.reading
reading_closed r None = refl
reading_closed r (Some j) = elim (cases_Bool (eqb j.left 0)) [ inl t ↦ rw t | inr f ↦ rw f ]

-- and so does a slot
reading_on : (samp run : Bool) (r : Row) → (after_by samp run r).reading ≡ r.reading
reading_on true true r = reading_closed (grown (ran (opened r))) (grown (ran (opened r))).job
reading_on true false r = reading_closed (grown (opened r)) (grown (opened r)).job
reading_on false true r = reading_closed (grown (ran r)) (grown (ran r)).job
reading_on false false r = reading_closed (grown r) (grown r).job

-- rows that match do so a slot later, whether or not the slot has a fault
pub row_on : (m place row k : ℕ) (w : RowWork) (r : Row) → names m k ≡ (eqb place 0 || (eqb row (k + 1) && eqb w.left 0)) → RowMatches w r
    → RowMatches (work_after place row k w) (row_after (m, row) k r)
row_on m place row k w r named h =
    let reading = reading_on (names m k) (eqb row (k + 1)) r in
    let work = ap (λ (x : Reading). x.work) reading in
    let left = left_on r.reading r.shown r.age r.job w.left (names m k) (eqb row (k + 1)) h.some h.left in
    record {
      work = h.work ∙ sym work;
      some = let some = h.some in omega arith;
      left = rw (← named, h.work) left;
    }

-- a row of the books tells that of the player
row_one : (w v : RowWork) (r : Row) → RowMatches w r → RowMatches v r → w ≡ v
row_one w v r m n =
    let work = m.work ∙ sym n.work in
    let left = left_one r.job w.left v.left m.left n.left in
    let same : ◌≡◌ {A = RowWork} (record { work = w.work; left = w.left }) (record { work = v.work; left = v.left }) = cc in
    same

-- as many rows, and they match one by one
pub record RowsMatch (ws : List RowWork) (rs : List Row) : Type 0 where
  pub same : length ws ≡ length rs
  pub each : (k : ℕ) → k < length ws → RowMatches (get_or ws k no_work) (get_or rs k blank_row)

-- at a start the rows match
pub rows_start : (ds : List Reading) → All WorkRange ds → RowsMatch (map resting ds) (map come_on ds)
rows_start ds works =
    record {
      same = length-map ds resting ∙ sym (length-map ds come_on);
      each = λ k h.
          let inside : k < length ds = omega (arith, length-map ds resting) in
          let some = (works k blank inside).0 in
          rw (get_or-map resting ds k blank no_work inside, get_or-map come_on ds k blank blank_row inside) (record { work = refl; some = some; left = refl });
    }

module _ (ws : List RowWork) (rs : List Row) (m : RowsMatch ws rs) where
  -- a row has no work left exactly where it has no open job, past the last row too
  pub rests_same : (k : ℕ) → eqb (get_or ws k no_work).left 0 ≡ is_none (get_or rs k blank_row).job
  rests_same k =
      elim (cases_lt k (length ws)) [
        | inl inside ↦ left_rests _ _ (m.each k inside).left
        | inr past ↦
            let e = m.same in
            let beyond : length rs ≤ k = omega arith in
            rw (get_or_past ws k no_work past, get_or_past rs k blank_row beyond) refl
      ]

  -- what the answer of a slot samples
  named_same : (place row k : ℕ) → k < length ws → names (strip_samples (length rs) place row (is_none (get_or rs (row - 1) blank_row).job)) k ≡ (eqb place 0 || (eqb row (k + 1) && eqb (get_or ws k no_work).left 0))
  named_same place row k h =
      let e = m.same in
      let inside : k < length rs = omega arith in
      let named = names_samples (length rs) place row k (is_none (get_or rs (row - 1) blank_row).job) inside in
      elim (cases_Bool (eqb row (k + 1))) [
        | inl t ↦
            let z = eqb-true row (k + 1) t in
            let here : row - 1 ≡ k = omega arith in
            named ∙ ap (λ (b : Bool). eqb place 0 || (eqb row (k + 1) && b)) (ap (λ (j : ℕ). is_none (get_or rs j blank_row).job) here ∙ sym (rests_same k))
        | inr f ↦ named ∙ rw f refl
      ]

  -- rows that match do so a slot later
  pub rows_on : (place row : ℕ) → RowsMatch (each_from (work_after place row) 0 ws) (slot (strip_samples (length rs) place row (is_none (get_or rs (row - 1) blank_row).job), row) rs)
  rows_on place row =
      let samples : ℕ = strip_samples (length rs) place row (is_none (get_or rs (row - 1) blank_row).job) in
      record {
        same = length_each (work_after place row) 0 ws ∙ m.same ∙ sym (length_each (row_after (samples, row)) 0 rs);
        each = λ k h.
            let e = m.same in
            let inside : k < length ws = omega (arith, length_each (work_after place row) 0 ws) in
            let within : k < length rs = omega arith in
            rw (get_or_each (work_after place row) ws k no_work inside, get_or_each (row_after (samples, row)) rs k blank_row within)
            (row_on samples place row k (get_or ws k no_work) (get_or rs k blank_row) (named_same place row k inside) (m.each k inside));
      }

  -- the rows of the books tell those of the player
  pub rows_one : (vs : List RowWork) → RowsMatch vs rs → ws ≡ vs
  rows_one vs n =
      ext_get_or no_work ws vs (m.same ∙ sym n.same) (λ k h.
      let e = m.same in
      let f = n.same in
      row_one _ _ _ (m.each k h) (n.each k (omega arith)))
