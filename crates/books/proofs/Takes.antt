-- All rows through a slot: the samples and the run first, and then the slot passes, row by row.
use Rattle.std.proofs.Common.{◌≡◌, ℕ, ◌+◌, ◌<◌, true, false, refl, cond, Some, None, Option, List, length, get_or, drop, set, sym, ap, ◌∙◌, inl, inr, arith}
use Rattle.std.proofs.lemmas.List.{at_drop_more, get_or-set_other, get_or-set_same, length-set, same_lists, get_or_default}
use Rattle.std.proofs.lemmas.List.Elements.{All-from_get_or}
use Rattle.std.proofs.lemmas.Bool.{cases_eq, eq-eqb, ne_eqb}
use Rattle.std.specs.Option.{option_or}
use Rattle.policy.specs.Course.{Answer}
use Rattle.books.specs.declared.row.Row.{Row}
use Rattle.books.specs.Rows.{blank_row, job_age, ran}
use Rattle.books.specs.Parts.{Young, finishes, passed}
use Rattle.books.specs.Slots.{each_from, lowest_from, run, sampled, shown_row, slot, worked}
use Rattle.books.proofs.Each.{each_twice, get_or_each, length_each, lowest_each}
use Rattle.books.proofs.Keeps.{work_keeps}

-- s is the lowest row whose value goes on show, if it is among the first k
abbrev pub ShownBelow : ℕ → List Row → Option ℕ → Type 0
ShownBelow k old s = lowest_from finishes 0 old ≡ option_or s (lowest_from finishes k (drop k old))

-- one row more: its value goes on show, unless one above it does
pub shown_here : (k : ℕ) (old : List Row) (s t : Option ℕ) → k < length old → ShownBelow k old s → true ≡ finishes k (get_or old k blank_row)
    → t ≡ option_or s (Some (k + 1)) → ShownBelow (k + 1) old t
shown_here k old s t h e f g =
    let rest : Option ℕ = lowest_from finishes (k + 1) (drop (k + 1) old) in
    let lowest : lowest_from finishes k (drop k old) ≡ cond (finishes k (get_or old k blank_row)) (Some (k + 1)) rest = at_drop_more (lowest_from finishes k) old k blank_row h in
    let here : lowest_from finishes k (drop k old) ≡ Some (k + 1) = cc in
    e ∙ ap (option_or s) here ∙ (elim s as (λ (o : Option ℕ). option_or o (Some (k + 1)) ≡ option_or (option_or o (Some (k + 1))) rest) [ Some n ↦ refl | None ↦ refl ]) ∙ ap (λ (o : Option ℕ). option_or o rest) (sym g)

-- or it does not
pub shown_not : (k : ℕ) (old : List Row) (s : Option ℕ) → k < length old → ShownBelow k old s → false ≡ finishes k (get_or old k blank_row) → ShownBelow (k + 1) old s
shown_not k old s h e f =
    let rest : Option ℕ = lowest_from finishes (k + 1) (drop (k + 1) old) in
    let lowest : lowest_from finishes k (drop k old) ≡ cond (finishes k (get_or old k blank_row)) (Some (k + 1)) rest = at_drop_more (lowest_from finishes k) old k blank_row h in
    let later : lowest_from finishes k (drop k old) ≡ rest = cc in
    e ∙ ap (option_or s) later

-- to run no row changes none
pub run_none : (n : ℕ) (rs : List Row) → ((k : ℕ) → k < length rs → n ≡ k + 1 → ⊥) → rs ≡ each_from (run n) 0 rs
run_none n rs none =
    same_lists rs (each_from (run n) 0 rs) (sym (length_each (run n) 0 rs)) (λ k d h.
    sym (get_or_each (run n) rs k d h ∙ rw (ne_eqb n (k + 1) (none k h))))

-- to run one row changes that one
pub run_some : (n : ℕ) (rs : List Row) (r : Row) (j : ℕ) → j < length rs → n ≡ j + 1 → r ≡ ran (get_or rs j blank_row) → set rs j r ≡ each_from (run n) 0 rs
run_some n rs r j h e is =
    same_lists (set rs j r) (each_from (run n) 0 rs) (length-set rs j r ∙ sym (length_each (run n) 0 rs)) (λ k d l.
    let m = length-set rs j r in
    let i : k < length rs = omega arith in
    elim (cases_eq k j) [
      | inl same ↦
          rw same (get_or-set_same rs j r d h ∙ is ∙ ap ran (get_or_default rs j blank_row d h) ∙ sym (get_or_each (run n) rs j d h ∙ rw (eq-eqb n (j + 1) e)))
      | inr other ↦
          get_or-set_other rs j k r d other ∙ sym (get_or_each (run n) rs k d i ∙ rw (ne_eqb n (k + 1) (λ z. other (omega arith))))
    ])

-- steps 1 and 2 together
pub worked_is : (a : Answer) (rs mid out : List Row) → mid ≡ each_from (sampled a.0) 0 rs → out ≡ each_from (run a.1) 0 mid → out ≡ each_from (worked a) 0 rs
worked_is a rs mid out e f = f ∙ ap (each_from (run a.1) 0) e ∙ each_twice (run a.1) (sampled a.0) 0 rs

-- they leave ages room to grow
pub worked_young : (a : Answer) (rs : List Row) → Young rs → Young (each_from (worked a) 0 rs)
worked_young a rs young =
    All-from_get_or (λ r. (r.age < 65535) × (job_age r.job < 65535)) (each_from (worked a) 0 rs) blank_row (λ k h.
    let l = length_each (worked a) 0 rs in
    let i : k < length rs = omega arith in
    let y = young k blank_row i in
    let w = work_keeps a k (get_or rs k blank_row) in
    rw (get_or_each (worked a) rs k blank_row i) (omega arith, omega arith))

-- and then the slot passes
pub after_is : (a : Answer) (rs mid out : List Row) → mid ≡ each_from (worked a) 0 rs → out ≡ each_from passed 0 mid → out ≡ slot a rs
after_is a rs mid out e f = f ∙ ap (each_from passed 0) e ∙ each_twice passed (worked a) 0 rs

pub shown_is : (a : Answer) (rs mid : List Row) (s : Option ℕ) → mid ≡ each_from (worked a) 0 rs → s ≡ lowest_from finishes 0 mid → s ≡ shown_row a rs
shown_is a rs mid s e f = f ∙ ap (lowest_from finishes 0) e ∙ lowest_each finishes (worked a) 0 rs
