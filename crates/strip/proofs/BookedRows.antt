-- A laid row of the books, told by its last sample and by the work that is left, and what a slot makes of it.
use Rattle.std.proofs.Common.{◌≡◌, ℕ, zero, suc, ◌+◌, ◌-◌, ◌≤◌, Bool, true, false, cond, Some, None, refl, ap, sym, ◌∙◌, subst, add-one, arith}
use Rattle.std.proofs.lemmas.Bool.{ne_eqb}
use Rattle.books.specs.Rows.{closed, come_on, grown, opened, ran}
use Rattle.books.specs.declared.row.Row.{Row}
use Rattle.deferral.specs.declared.span.Span.{Span}
use Rattle.readings.specs.declared.reading.Reading.{Reading}

-- a value is on show while job j is open: not with the first job
abbrev pub shown_with : ℕ → Bool
shown_with zero = false
shown_with (suc j) = true

-- the age of the row then: that of the job before or, with the first job, the slots passed
abbrev pub age_with : (ℕ → Span) → ℕ → ℕ → ℕ
age_with spans n zero = n
age_with spans n (suc j) = n - (spans j).sample

-- a row before slot n, where job j is the last sampled and has so much work left
abbrev pub booked : Reading → (ℕ → Span) → (n j left : ℕ) → Row
booked r spans n j zero = record { reading = r; shown = true; age = n - (spans j).sample; job = None }
booked r spans n j (suc left) =
    record { reading = r; shown = shown_with j; age = age_with spans n j; job = Some (record { age = n - (spans j).sample; left = suc left }) }

-- a row through a slot, by whether it is sampled and whether it is run
abbrev pub row_by : (samp run : Bool) → Row → Row
row_by samp run r = closed (grown (cond run (ran (cond samp (opened r) r)) (cond samp (opened r) r)))

-- samples of jobs up to j that are past
abbrev pub Past : (ℕ → Span) → ℕ → ℕ → Type 0
Past spans n j = (i : ℕ) → i ≤ j → (spans i).sample ≤ n

-- the age of a row grows by one
age_more : (spans : ℕ → Span) (n j : ℕ) → Past spans n j → age_with spans n j + 1 ≡ age_with spans (n + 1) j
age_more spans n zero p = refl
age_more spans n (suc j) p = let h = p j (omega arith) in omega arith

-- the slot of the first sample
pub first_row : (r : Reading) (spans : ℕ → Span) (run : Bool) (left : ℕ) → (spans 0).sample ≡ 0 → r.work ≡ cond run 1 0 + left
    → row_by true run (come_on r) ≡ booked r spans 1 0 left
first_row r spans true zero z e =
    let one : r.work - 1 ≡ 0 = omega arith in
    let age : 0 + 1 ≡ 1 - (spans 0).sample = omega arith in
    rw one (cc)
first_row r spans true (suc left) z e =
    let one : r.work - 1 ≡ suc left = omega arith in
    let age : 0 + 1 ≡ 1 - (spans 0).sample = omega arith in
    rw (one, ne_eqb (suc left) 0 (λ i. omega arith)) (cc)
first_row r spans false zero z e =
    let none : r.work ≡ 0 = omega arith in
    let age : 0 + 1 ≡ 1 - (spans 0).sample = omega arith in
    rw none (cc)
first_row r spans false (suc left) z e =
    let all : r.work ≡ suc left = omega arith in
    let age : 0 + 1 ≡ 1 - (spans 0).sample = omega arith in
    rw (all, ne_eqb (suc left) 0 (λ i. omega arith)) (cc)

-- a sample where the job before has no work left, the new job numbered suc j
opens_next : (r : Reading) (spans : ℕ → Span) (n j left : ℕ) → (spans (suc j)).sample ≡ n → Past spans n j → r.work ≡ 1 + left
    → row_by true true (booked r spans n j 0) ≡ booked r spans (n + 1) (suc j) left
opens_next r spans n j zero z p e =
    let one : r.work - 1 ≡ 0 = omega arith in
    let age : 0 + 1 ≡ (n + 1) - (spans (suc j)).sample = omega arith in
    rw one (cc)
opens_next r spans n j (suc left) z p e =
    let past = p j (omega arith) in
    let one : r.work - 1 ≡ suc left = omega arith in
    let age : 0 + 1 ≡ (n + 1) - (spans (suc j)).sample = omega arith in
    let older : (n - (spans j).sample) + 1 ≡ (n + 1) - (spans j).sample = omega arith in
    rw (one, ne_eqb (suc left) 0 (λ i. omega arith)) (cc)

-- the slot of a later sample, where the job before has no work left
pub opens_row : (r : Reading) (spans : ℕ → Span) (n j left : ℕ) → n ≡ (spans (j + 1)).sample → Past spans n j → r.work ≡ 1 + left
    → row_by true true (booked r spans n j 0) ≡ booked r spans (n + 1) (j + 1) left
opens_row r spans n j left e p w =
    let next : j + 1 ≡ suc j = add-one j in
    subst (λ (i : ℕ). row_by true true (booked r spans n j 0) ≡ booked r spans (n + 1) i left) (sym next)
    (opens_next r spans n j left (ap (λ (i : ℕ). (spans i).sample) (sym next) ∙ sym e) p w)

-- a slot that the open job runs
pub works_row : (r : Reading) (spans : ℕ → Span) (n j left : ℕ) → Past spans n j
    → row_by false true (booked r spans n j (suc left)) ≡ booked r spans (n + 1) j left
works_row r spans n j zero p =
    let past = p j (omega arith) in
    let age : (n - (spans j).sample) + 1 ≡ (n + 1) - (spans j).sample = omega arith in
    let one : suc zero - 1 ≡ 0 = omega arith in
    cc
works_row r spans n j (suc left) p =
    let past = p j (omega arith) in
    let age : (n - (spans j).sample) + 1 ≡ (n + 1) - (spans j).sample = omega arith in
    let older = age_more spans n j p in
    let one : suc (suc left) - 1 ≡ suc left = omega arith in
    rw (one, ne_eqb (suc left) 0 (λ i. omega arith)) (cc)

-- a slot in which the row is not run
pub rests_row : (r : Reading) (spans : ℕ → Span) (n j left : ℕ) → Past spans n j
    → row_by false false (booked r spans n j left) ≡ booked r spans (n + 1) j left
rests_row r spans n j zero p =
    let past = p j (omega arith) in
    let age : (n - (spans j).sample) + 1 ≡ (n + 1) - (spans j).sample = omega arith in
    cc
rests_row r spans n j (suc left) p =
    let past = p j (omega arith) in
    let age : (n - (spans j).sample) + 1 ≡ (n + 1) - (spans j).sample = omega arith in
    let older = age_more spans n j p in
    rw (ne_eqb (suc left) 0 (λ i. omega arith)) (cc)
