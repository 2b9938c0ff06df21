-- A slot without a fault keeps books fresh.
use Rattle.std.proofs.Common.{◌≡◌, ℕ, ◌+◌, ◌-◌, ◌<◌, ◌≤◌, Bool, true, false, cond, eqb, List, length, get_or, Some, None, Option, refl, ap, ◌∙◌, inl, inr, arith}
use Rattle.std.proofs.lemmas.Bool.{cases_Bool}
use Rattle.std.proofs.lemmas.List.Elements.{All-from_get_or}
use Rattle.policy.specs.Course.{Answer, names}
use Rattle.readings.specs.declared.reading.Reading.{Reading}
use Rattle.books.specs.declared.fault.Fault.{Fault}
use Rattle.books.specs.declared.row.Job.{Job}
use Rattle.books.specs.declared.row.Row.{Row}
use Rattle.books.specs.Fresh.{Fresh}
use Rattle.books.specs.Rows.{blank_row, closed, closed_by, grown, job_age, opened, ran, stale}
use Rattle.books.specs.Parts.{grown_fault}
use Rattle.books.specs.Valid.{Spare, Valid, aged}
use Rattle.books.specs.Slots.{fault, judged, run_fault, sample_fault, sampled, slot, stale_fault, row_after, worked}
use Rattle.readings.specs.Firsts.{first_of}
use Rattle.std.specs.Option.{option_or}
use Rattle.books.proofs.Each.{get_or_each, length_each}
use Rattle.books.proofs.Valids.{not_stale_valid, valid_not_stale}
use Rattle.readings.proofs.Firsts.{first_clear, first_none, or_clear}

-- what steps 1 and 2 leave of a row
pub record WorkKeeps (r w : Row) : Type 0 where
  pub reading : w.reading ≡ r.reading
  pub shown : w.shown ≡ r.shown
  pub age : w.age ≡ r.age
  pub job : job_age w.job ≤ job_age r.job

same : (r : Row) → WorkKeeps r r
same r = record { reading = refl; shown = refl; age = refl; job = omega arith }

sampling : (b : Bool) (r : Row) → WorkKeeps r (cond b (opened r) r)
sampling true r = record { reading = refl; shown = refl; age = refl; job = omega arith }
sampling false r = same r

job_run : (r : Row) (o : Option Job) → r.job ≡ o → job_age (ran r).job ≡ job_age r.job
job_run r None e = rw e refl
job_run r (Some j) e = rw e refl

running : (b : Bool) (r : Row) → WorkKeeps r (cond b (ran r) r)
running true r = let e = job_run r r.job refl in record { reading = refl; shown = refl; age = refl; job = omega arith }
running false r = same r

pub work_keeps : (a : Answer) (k : ℕ) (r : Row) → WorkKeeps r (worked a k r)
work_keeps a k r =
    let s = sampling (names a.0 k) r in
    let w = running (eqb a.1 (k + 1)) (sampled a.0 k r) in
    record { reading = w.reading ∙ s.reading; shown = w.shown ∙ s.shown; age = w.age ∙ s.age; job = omega arith }

job_older : (r : Row) (o : Option Job) → r.job ≡ o → job_age (grown r).job ≤ job_age r.job + 1
job_older r None e = rw e (omega arith)
job_older r (Some j) e = rw e (omega arith)

-- what closing leaves of a row whose job is no older than it
pub record CloseKeeps (r w : Row) : Type 0 where
  pub reading : w.reading ≡ r.reading
  pub age : w.age ≤ r.age
  pub job : job_age w.job ≤ w.age

closing : (r : Row) (o : Option Job) → r.job ≡ o → job_age o ≤ r.age → CloseKeeps r (closed_by r o)
closing r None e h = let i = ap job_age e in record { reading = refl; age = omega arith; job = omega arith }
closing r (Some j) e h =
    let i = ap job_age e in
    elim (cases_Bool (eqb j.left 0)) [
      | inl t ↦ rw t (record { reading = refl; age = h; job = omega arith })
      | inr f ↦ rw f (record { reading = refl; age = omega arith; job = omega arith })
    ]

pub close_keeps : (r : Row) → job_age r.job ≤ r.age → CloseKeeps r (closed r)
close_keeps r h = closing r r.job refl h

-- a row through a slot: its reading stays, and no age is above the one that was judged
pub row_after_keeps : (a : Answer) (k : ℕ) (r : Row) → job_age r.job ≤ r.age → CloseKeeps (judged a k r) (row_after a k r)
row_after_keeps a k r h =
    let w = work_keeps a k r in
    let o = job_older (worked a k r) (worked a k r).job refl in
    close_keeps (judged a k r) (omega arith)

pub clear_flag : (b : Bool) (x : Fault) → cond b (Some x) None ≡ None → b ≡ false
clear_flag true x e = cc
clear_flag false x e = refl

-- a slot without a fault judges each row fresh
pub judged_fresh : (a : Answer) (rs : List Row) → fault a rs ≡ None → (k : ℕ) → k < length rs
    → Valid (judged a k (get_or rs k blank_row))
judged_fresh a rs e k h =
    let later = (or_clear (first_of (sample_fault a.0 rs) 0 16) (option_or (run_fault a rs) (first_of (stale_fault a rs) 0 (length rs))) e).1 in
    let late = (or_clear (run_fault a rs) (first_of (stale_fault a rs) 0 (length rs)) later).1 in
    let clear : stale_fault a rs k ≡ None = first_clear (stale_fault a rs) 0 (length rs) late k (omega arith) (omega arith) in
    let r : Row = judged a k (get_or rs k blank_row) in
    not_stale_valid r (clear_flag (stale r) _ clear)

-- a row of the books after a slot
pub slot_row : (a : Answer) (rs : List Row) (k : ℕ) → k < length rs → get_or (slot a rs) k blank_row ≡ row_after a k (get_or rs k blank_row)
slot_row a rs k h = get_or_each (row_after a) rs k blank_row h

pub slot_length : (a : Answer) (rs : List Row) → length (slot a rs) ≡ length rs
slot_length a rs = length_each (row_after a) 0 rs

module _ (a : Answer) (rs : List Row) (f : Fresh rs) (calm : fault a rs ≡ None) (k : ℕ) (h : k < length (slot a rs)) where
  inside : k < length rs
  inside = omega (arith, slot_length a rs)

  kept_reading : (get_or (slot a rs) k blank_row).reading ≡ (get_or rs k blank_row).reading
  kept_reading =
      let r : Row = get_or rs k blank_row in
      ap (λ (x : Row). x.reading) (slot_row a rs k inside) ∙ (row_after_keeps a k r (f.jobs k blank_row inside)).reading ∙ (work_keeps a k r).reading

  kept_validity : (get_or (slot a rs) k blank_row).reading.validity ≤ 4095
  kept_validity = let v = f.validities k blank_row inside in let e = ap (λ (x : Reading). x.validity) kept_reading in omega arith

  kept_age : Valid (get_or (slot a rs) k blank_row)
  kept_age =
      let r : Row = get_or rs k blank_row in
      let t = (row_after_keeps a k r (f.jobs k blank_row inside)).age in
      let j = judged_fresh a rs calm k inside in
      let w = ap (λ (x : Reading). x.validity) (work_keeps a k r).reading in
      let v = ap (λ (x : Reading). x.validity) kept_reading in
      let e : (get_or (slot a rs) k blank_row).age ≡ (row_after a k r).age = ap (λ (x : Row). x.age) (slot_row a rs k inside) in
      omega arith

  kept_job : job_age (get_or (slot a rs) k blank_row).job ≤ (get_or (slot a rs) k blank_row).age
  kept_job =
      let r : Row = get_or rs k blank_row in
      let t = (row_after_keeps a k r (f.jobs k blank_row inside)).job in
      let e : (get_or (slot a rs) k blank_row).age ≡ (row_after a k r).age = ap (λ (x : Row). x.age) (slot_row a rs k inside) in
      let g : job_age (get_or (slot a rs) k blank_row).job ≡ job_age (row_after a k r).job = ap (λ (x : Row). job_age x.job) (slot_row a rs k inside) in
      omega arith

-- a slot without a fault keeps books fresh
pub slot_fresh : (a : Answer) (rs : List Row) → Fresh rs → fault a rs ≡ None → Fresh (slot a rs)
slot_fresh a rs f calm =
    record {
      few = let l = slot_length a rs in let n = f.few in omega arith;
      validities = All-from_get_or (λ r. r.reading.validity ≤ 4095) (slot a rs) blank_row (kept_validity a rs f calm);
      ages = All-from_get_or Valid (slot a rs) blank_row (kept_age a rs f calm);
      jobs = All-from_get_or (λ r. job_age r.job ≤ r.age) (slot a rs) blank_row (kept_job a rs f calm);
    }

-- where so many slots may pass, one less may after a slot
pub slot_spare : (a : Answer) (rs : List Row) → Fresh rs → (n : ℕ) → Spare rs n → 0 < n → Spare (slot a rs) (n - 1)
slot_spare a rs f n s p =
    All-from_get_or (λ r. Valid (aged (n - 1) r)) (slot a rs) blank_row (λ k h.
    let i : k < length rs = omega (arith, slot_length a rs) in
    let r : Row = get_or rs k blank_row in
    let t = row_after_keeps a k r (f.jobs k blank_row i) in
    let w = work_keeps a k r in
    let v = ap (λ (x : Reading). x.validity) (t.reading ∙ w.reading) in
    let here = s k blank_row i in
    rw (slot_row a rs k i) (omega arith))

-- and none is stale in it
pub spare_calm : (rs : List Row) (n : ℕ) → Spare rs n → 0 < n → None ≡ first_of (grown_fault rs) 0 (length rs)
spare_calm rs n s p =
    first_none (grown_fault rs) 0 (length rs) (λ k h.
    let r : Row = get_or rs k blank_row in
    let here = s k blank_row (omega arith) in
    let e : stale (grown r) ≡ false = valid_not_stale (grown r) (omega arith) in
    rw e)
