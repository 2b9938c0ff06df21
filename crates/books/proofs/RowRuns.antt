-- One row of the books along a course.
use Rattle.std.proofs.Common.{◌≡◌, ℕ, zero, suc, ◌+◌, ◌-◌, ◌<◌, ◌≤◌, Bool, true, false, cond, eqb, leb, List, length, get_or, Some, None, is_some, sym, refl, ap, ◌∙◌, arith}
use Rattle.std.proofs.lemmas.Bool.{eqb-true, le-leb, lt-ltb, ne_eqb}
use Rattle.policy.specs.Course.{Answer, Course, names}
use Rattle.books.specs.declared.fault.Fault.{Fault}
use Rattle.books.specs.declared.fault.Step.TheVariants.{Run}
use Rattle.books.specs.declared.row.Row.{Row}
use Rattle.books.specs.Rows.{blank_row, has_work, row_fault}
use Rattle.books.specs.Slots.{books_at, fault, run_fault, sample_fault, sampled, stale_fault, row_after}
use Rattle.readings.specs.Firsts.{first_of}
use Rattle.std.specs.Option.{option_or}
use Rattle.readings.proofs.Firsts.{first_clear, or_clear}
use Rattle.books.proofs.Keeps.{clear_flag, slot_length, slot_row}

-- row k + 1 after n slots of a course
abbrev pub row_at : Course → ℕ → Row → ℕ → Row
row_at c k r zero = r
row_at c k r (suc n) = row_after (c n) k (row_at c k r n)

pub books_length : (c : Course) (rs : List Row) (n : ℕ) → length (books_at c rs n) ≡ length rs
books_length c rs zero = refl
books_length c rs (suc n) = slot_length (c n) (books_at c rs n) ∙ books_length c rs n

pub books_row : (c : Course) (rs : List Row) (k : ℕ) → k < length rs → (n : ℕ) → get_or (books_at c rs n) k blank_row ≡ row_at c k (get_or rs k blank_row) n
books_row c rs k h zero = refl
books_row c rs k h (suc n) =
    let l = books_length c rs n in
    slot_row (c n) (books_at c rs n) k (omega arith) ∙ ap (row_after (c n) k) (books_row c rs k h n)

clear_work : (b : Bool) (x : Fault) → cond b None (Some x) ≡ None → b ≡ true
clear_work true x e = refl
clear_work false x e = cc

-- a slot without a fault samples a row only where no job of it is open
pub sampled_closed : (a : Answer) (rs : List Row) → length rs ≤ 16 → fault a rs ≡ None → (k : ℕ) → k < length rs
    → names a.0 k ≡ true → is_some (get_or rs k blank_row).job ≡ false
sampled_closed a rs few e k h named =
    let first = (or_clear (first_of (sample_fault a.0 rs) 0 16) (option_or (run_fault a rs) (first_of (stale_fault a rs) 0 (length rs))) e).0 in
    let clear : sample_fault a.0 rs k ≡ None = first_clear (sample_fault a.0 rs) 0 16 first k (omega arith) (omega arith) in
    clear_flag (is_some (get_or rs k blank_row).job) _ (rw (named, lt-ltb k (length rs) h) at clear)

run_at : (a : Answer) (rs : List Row) (k : ℕ) → a.1 ≡ k + 1 → k < length rs → run_fault a rs ≡ row_fault Run (sampled a.0 k (get_or rs k blank_row)) a.1
run_at a rs k e h =
    let z : eqb a.1 0 ≡ false = ne_eqb a.1 0 (λ i. omega arith) in
    let l : leb a.1 (length rs) ≡ true = le-leb a.1 (length rs) (omega arith) in
    let m : a.1 - 1 ≡ k = omega arith in
    rw (z, l, m)

-- and runs a row only where a job of it is open, with work left
pub run_works : (a : Answer) (rs : List Row) → fault a rs ≡ None → (k : ℕ) → k < length rs
    → eqb a.1 (k + 1) ≡ true → has_work (sampled a.0 k (get_or rs k blank_row)).job ≡ true
run_works a rs e k h named =
    let later = (or_clear (first_of (sample_fault a.0 rs) 0 16) (option_or (run_fault a rs) (first_of (stale_fault a rs) 0 (length rs))) e).1 in
    let clear : run_fault a rs ≡ None = (or_clear (run_fault a rs) (first_of (stale_fault a rs) 0 (length rs)) later).0 in
    clear_work (has_work (sampled a.0 k (get_or rs k blank_row)).job) _ (sym (run_at a rs k (eqb-true a.1 (k + 1) named) h) ∙ clear)
