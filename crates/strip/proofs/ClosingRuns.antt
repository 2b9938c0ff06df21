-- A closing strip slot by slot: its place, and the rows of its books.
use Rattle.std.proofs.Common.{◌≡◌, ℕ, zero, suc, ◌+◌, ◌-◌, ◌<◌, ◌≤◌, Bool, true, false, List, length, get_or, take, eqb, is_none, refl, ap, sym, ◌∙◌, subst, add-one, arith, length-take, get_or-take}
use Rattle.std.proofs.lemmas.Bool.{eq-eqb, ne_eqb}
use Rattle.policy.specs.Course.{Answer, names}
use Rattle.books.specs.Rows.{blank_row}
use Rattle.books.specs.Slots.{row_after}
use Rattle.books.specs.declared.row.Row.{Row}
use Rattle.books.proofs.Keeps.{slot_length, slot_row}
use Rattle.deferral.specs.Free.{play_of}
use Rattle.repeat.specs.Marks.{after}
use Rattle.strip.specs.Closings.{Closing, closing_answer, closing_from, closing_next, row_named, row_rests}
use Rattle.strip.proofs.Bits.{samples_first, samples_later}
use Rattle.strip.proofs.BookedRows.{row_by}

-- a strip with its books n slots on
abbrev pub closing_at : (slots : List ℕ) → (limit : ℕ) → List Row → ℕ → Closing
closing_at slots limit rows n = after closing_next n (closing_from slots limit rows)

-- a row through a slot, by what the answer says of it
row_after_by : (a : Answer) (k : ℕ) (samp run : Bool) (r : Row) → names a.0 k ≡ samp → eqb a.1 (k + 1) ≡ run → row_after a k r ≡ row_by samp run r
row_after_by a k samp run r e g = rw (e, g) refl

module _ (slots : List ℕ) (limit : ℕ) (fits : limit ≤ length slots) (rows : List Row) where
  -- its slots stay
  pub closing_slots : (n : ℕ) → (closing_at slots limit rows n).slots ≡ take limit slots
  closing_slots zero = refl
  closing_slots (suc n) = closing_slots n

  -- each slot moves the place on
  pub closing_place : (n : ℕ) → n ≤ limit → (closing_at slots limit rows n).place ≡ n
  closing_place zero h = refl
  closing_place (suc n) h =
      let s = closing_slots n in
      let p = closing_place n (omega arith) in
      let long = ap (λ (xs : List ℕ). length xs) s in
      let all = length-take limit slots in
      omega arith

  -- no row comes or goes
  pub closing_length : (n : ℕ) → length (closing_at slots limit rows n).rows ≡ length rows
  closing_length zero = refl
  closing_length (suc n) =
      let s : Closing = closing_at slots limit rows n in
      slot_length (closing_answer s) s.rows ∙ closing_length n

  -- the slot at the place names the row that the strip has there
  pub closing_named : (n : ℕ) → n < limit → row_named (closing_at slots limit rows n) ≡ play_of slots n
  closing_named n h =
      let s = closing_slots n in
      let p = closing_place n (omega arith) in
      rw (s, p) (get_or-take limit slots n 0 h)

  -- a row of the books through a slot
  row_on : (n k : ℕ) → k < length rows → (samp run : Bool) → names (closing_answer (closing_at slots limit rows n)).0 k ≡ samp → eqb (row_named (closing_at slots limit rows n)) (k + 1) ≡ run
      → get_or (closing_at slots limit rows (n + 1)).rows k blank_row ≡ row_by samp run (get_or (closing_at slots limit rows n).rows k blank_row)
  row_on n k h samp run e g =
      let s : Closing = closing_at slots limit rows n in
      let l = closing_length n in
      let next : get_or (closing_at slots limit rows (suc n)).rows k blank_row ≡ row_after (closing_answer s) k (get_or s.rows k blank_row) = slot_row (closing_answer s) s.rows k (omega arith) in
      subst (λ (m : ℕ). get_or (closing_at slots limit rows m).rows k blank_row ≡ row_after (closing_answer s) k (get_or s.rows k blank_row)) (sym (add-one n)) next ∙ row_after_by (closing_answer s) k samp run (get_or s.rows k blank_row) e g

  -- slot 0 samples each row
  pub row_first : (k : ℕ) → 0 < limit → k < length rows → (run : Bool) → eqb (play_of slots 0) (k + 1) ≡ run
      → get_or (closing_at slots limit rows 1).rows k blank_row ≡ row_by true run (get_or rows k blank_row)
  row_first k some h run e =
      let s : Closing = closing_at slots limit rows 0 in
      row_on 0 k h true run (samples_first (length rows) 0 (row_named s) (row_rests s) k refl h) (ap (λ (x : ℕ). eqb x (k + 1)) (closing_named 0 some) ∙ e)

  -- by the books row k + 1 has no open job, where the slot names it
  rests_named : (n k : ℕ) → row_named (closing_at slots limit rows n) ≡ k + 1
      → row_rests (closing_at slots limit rows n) ≡ is_none (get_or (closing_at slots limit rows n).rows k blank_row).job
  rests_named n k e =
      let one : row_named (closing_at slots limit rows n) - 1 ≡ k = omega arith in
      rw one refl

  -- a later slot that names the row samples it where no job of it is open
  pub row_runs : (n k : ℕ) → 0 < n → n < limit → k < length rows → play_of slots n ≡ k + 1 → (rests : Bool) → is_none (get_or (closing_at slots limit rows n).rows k blank_row).job ≡ rests
      → get_or (closing_at slots limit rows (n + 1)).rows k blank_row ≡ row_by rests true (get_or (closing_at slots limit rows n).rows k blank_row)
  row_runs n k some within h e rests none =
      let s : Closing = closing_at slots limit rows n in
      let p = closing_place n (omega arith) in
      let named : row_named s ≡ k + 1 = closing_named n within ∙ e in
      let runs : eqb (row_named s) (k + 1) ≡ true = eq-eqb (row_named s) (k + 1) named in
      let samples = samples_later (length s.rows) s.place (row_named s) (row_rests s) k (omega arith) in
      row_on n k h rests true (samples ∙ rw runs (rests_named n k named ∙ none)) runs

  -- one that does not name the row does not sample it
  pub row_waits : (n k : ℕ) → 0 < n → n < limit → k < length rows → (play_of slots n ≡ k + 1 → ⊥)
      → get_or (closing_at slots limit rows (n + 1)).rows k blank_row ≡ row_by false false (get_or (closing_at slots limit rows n).rows k blank_row)
  row_waits n k some within h other =
      let s : Closing = closing_at slots limit rows n in
      let p = closing_place n (omega arith) in
      let runs : eqb (row_named s) (k + 1) ≡ false = ne_eqb (row_named s) (k + 1) (λ e. other (sym (closing_named n within) ∙ e)) in
      let samples = samples_later (length s.rows) s.place (row_named s) (row_rests s) k (omega arith) in
      row_on n k h false false (samples ∙ rw runs refl) runs
