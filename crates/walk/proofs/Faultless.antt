-- After a crossing that passes the test, no slot of the accepted course has a fault.
use Rattle.std.proofs.Common.{◌≡◌, ℕ, ◌+◌, ◌-◌, ◌<◌, ◌≤◌, Bool, true, false, cond, eqb, leb, List, map, length, get_or, IfSome, Some, None, Option, sym, ap, ◌∙◌, inl, inr, arith}
use Rattle.std.proofs.lemmas.Bool.{cases_Bool, cases_lt, eqb-false, le-ltb, leb-true}
use Rattle.std.proofs.lemmas.List.{length-map}
use Rattle.std.specs.Option.{option_or}
use Rattle.policy.specs.Course.{Answer, Course, names}
use Rattle.readings.specs.Firsts.{first_of}
use Rattle.readings.specs.Ranges.{blank}
use Rattle.readings.specs.declared.reading.Reading.{Reading}
use Rattle.readings.proofs.Firsts.{first_clear, first_none, or_clear}
use Rattle.books.specs.Crossings.{carry, crossed, crossing_fault, late_fault}
use Rattle.books.specs.Lookups.{row_of}
use Rattle.books.specs.Rows.{blank_row, come_on, has_work, opened, stale}
use Rattle.books.specs.Slots.{books_at, fault, fault_at, judged, run_fault, sample_fault, stale_fault}
use Rattle.books.specs.declared.fault.Fault.{Fault}
use Rattle.books.specs.declared.fault.Fault.TheVariants.{JobRule}
use Rattle.books.specs.declared.row.Job.{Job}
use Rattle.books.specs.declared.row.Row.{Row}
use Rattle.books.proofs.RowRuns.{books_length, row_at}
use Rattle.books.specs.Valid.{Valid, aged}
use Rattle.books.proofs.Valids.{valid_not_stale}
use Rattle.walk.specs.Crossings.{MayCross}
use Rattle.walk.specs.Acceptance.{Accepts}
use Rattle.walk.proofs.Beside.{beside_at, stays}
use Rattle.walk.proofs.Crossing.{crossed_at, finish_first, finish_here, judged_age, judged_reading, over, over_reading, walk_fresh, walk_row}

-- two rows with one reading and one job
pub record Alike (r x : Row) : Type 0 where
  pub reading : x.reading ≡ r.reading
  pub job : x.job ≡ r.job

sampled_alike : (b : Bool) (r x : Row) → Alike r x → (cond b (opened x) x).job ≡ (cond b (opened r) r).job
sampled_alike true r x e = ap (λ (d : Reading). Some (record { age = 0; left = d.work })) e.reading
sampled_alike false r x e = e.job

-- books whose rows are alike, row by row, are sampled and run with the same faults
module _ (a : Answer) (ws xs : List Row) (l : length xs ≡ length ws) (alike : (k : ℕ) → k < length ws → Alike (get_or ws k blank_row) (get_or xs k blank_row)) where
  same_sample : (k : ℕ) → sample_fault a.0 xs k ≡ sample_fault a.0 ws k
  same_sample k =
      elim (cases_lt k (length ws)) [
        | inl i ↦ let e = (alike k i).job in rw (l, e)
        | inr g ↦ let e = le-ltb k (length ws) (omega arith) in rw (l, e)
      ]

  same_run : run_fault a xs ≡ run_fault a ws
  same_run =
      elim (cases_Bool (eqb a.1 0)) [
        | inl z ↦ rw z
        | inr z ↦ elim (cases_Bool (leb a.1 (length ws))) [
          | inl t ↦
              let k : ℕ = a.1 - 1 in
              let n = eqb-false a.1 0 z in
              let m = leb-true a.1 (length ws) t in
              let e = sampled_alike (names a.0 k) (get_or ws k blank_row) (get_or xs k blank_row) (alike k (omega arith)) in
              rw (z, l, t) (ap (λ (o : Option Job). cond (has_work o) None (Some (JobRule a.1))) e)
          | inr f ↦ rw (z, l, f)
        ]
      ]

  -- where the ones have no fault, the others have none either as long as no age of theirs is judged stale
  pub alike_faultless : fault a ws ≡ None → ((k : ℕ) → k < length xs → Valid (judged a k (get_or xs k blank_row)))
      → fault a xs ≡ None
  alike_faultless faultless fresh =
      let first = or_clear (first_of (sample_fault a.0 ws) 0 16) (option_or (run_fault a ws) (first_of (stale_fault a ws) 0 (length ws))) faultless in
      let next = or_clear (run_fault a ws) (first_of (stale_fault a ws) 0 (length ws)) first.1 in
      let s : None ≡ first_of (sample_fault a.0 xs) 0 16 = first_none (sample_fault a.0 xs) 0 16 (λ k h. same_sample k ∙ first_clear (sample_fault a.0 ws) 0 16 first.0 k (omega arith) h) in
      let r : run_fault a xs ≡ None = same_run ∙ next.0 in
      let j : None ≡ first_of (stale_fault a xs) 0 (length xs) = first_none (stale_fault a xs) 0 (length xs) (λ k h.
      let x : Row = judged a k (get_or xs k blank_row) in
      let e : stale x ≡ false = valid_not_stale x (fresh k (omega arith)) in
      rw e) in
      ap (λ (o : Option Fault). option_or o (option_or (run_fault a xs) (first_of (stale_fault a xs) 0 (length xs)))) (sym s)
      ∙ ap (λ (o : Option Fault). option_or o (first_of (stale_fault a xs) 0 (length xs))) r
      ∙ sym j

module _ (old : List Row) (new : List Reading) (c : Course) (finishes : List ℕ) (accepts : Accepts c (map come_on new) finishes) (test : MayCross old new finishes) where
  -- each row stays valid: a shared one by the test, and any other as in the walk
  valid_on : (k : ℕ) (h : k < length new) (o : Option Row) → IfSome o (λ r. Valid (aged (get_or finishes k 0) (carry (get_or new k blank) (Some r))))
      → (n : ℕ) → (row_at c k (carry (get_or new k blank) o) n).age + 1 ≤ (get_or new k blank).validity
  valid_on k h None t n = walk_fresh new c finishes accepts k h n
  valid_on k h (Some r) t n =
      let d : Reading = get_or new k blank in
      let f : ℕ = get_or finishes k 0 in
      stays c k d (Some r) f (walk_fresh new c finishes accepts k h) (finish_here new c finishes accepts k h) (finish_first new c finishes accepts k h)
      t n

  over_valid : (k : ℕ) (h : k < length new) (n : ℕ) → (row_at c k (over old new c k h) n).age + 1 ≤ (get_or new k blank).validity
  over_valid k h n = valid_on k h (row_of old (get_or new k blank).id) (test.in_time k h) n

  over_alike : (n : ℕ) (k : ℕ) → k < length new → Alike (get_or (books_at c (map come_on new) n) k blank_row) (get_or (books_at c (crossed old new) n) k blank_row)
  over_alike n k h =
      let d : Reading = get_or new k blank in
      let b = beside_at c k d (row_of old d.id) n in
      let x = crossed_at old new c k h n ∙ b.is in
      let w = walk_row new c finishes accepts k h n in
      record {
        reading = ap (λ (r : Row). r.reading) x ∙ sym (ap (λ (r : Row). r.reading) w);
        job = ap (λ (r : Row). r.job) x ∙ sym (ap (λ (r : Row). r.job) w);
      }

  -- no slot from the crossing on has a fault
  pub crossed_faultless : (n : ℕ) → fault_at c (crossed old new) n ≡ None
  crossed_faultless n =
      let ws : List Row = books_at c (map come_on new) n in
      let xs : List Row = books_at c (crossed old new) n in
      let a = books_length c (map come_on new) n in
      let b = length-map new come_on in
      let e = books_length c (crossed old new) n in
      let f = length-map new (λ (d : Reading). carry d (row_of old d.id)) in
      alike_faultless (c n) ws xs (omega arith) (λ k h. over_alike n k (omega arith)) (accepts.faultless n) (λ k l.
      let h : k < length new = omega arith in
      let fits = over_valid k h n in
      let g = judged_age old new c k h n in
      let v = ap (λ (x : Reading). x.validity) (judged_reading old new c k h n) in
      rw (crossed_at old new c k h n) (omega arith))

  -- and no row comes over with an age above its new validity
  pub crossed_clear : crossing_fault old new ≡ None
  crossed_clear =
      let rs : List Row = crossed old new in
      sym (first_none (late_fault rs) 0 (length rs) (λ k l.
      let m = length-map new (λ (d : Reading). carry d (row_of old d.id)) in
      let h : k < length new = omega arith in
      let r : Row = get_or rs k blank_row in
      let fits = over_valid k h 0 in
      let g = ap (λ (x : Row). x.age) (crossed_at old new c k h 0) in
      let v = ap (λ (x : Row). x.reading.validity) (crossed_at old new c k h 0) in
      let i = ap (λ (x : Reading). x.validity) (over_reading old new c k h 0) in
      let e : stale r ≡ false = valid_not_stale r (omega arith) in
      rw e))
