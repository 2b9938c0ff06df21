-- The slots of one job, taken one by one: upward for a first job, downward for a later one.
use Rattle.std.proofs.Common.{◌≡◌, ℕ, ◌+◌, ◌-◌, ◌<◌, ◌≤◌, Bool, true, false, leb, ltb, Some, None, List, [], ◌∷◌, length, get_or, set, refl, sym, ap, ◌∙◌, arith}
use Rattle.std.proofs.lemmas.Bool.{eq-eqb, le-leb, le-ltb, lt-leb, lt-ltb, ne_eqb}
use Rattle.planner.specs.Response.{least}
use Rattle.planner.proofs.Least.{least_tells, only_none, only_some}
use Rattle.deferral.specs.Free.{free_between, free_in, last_free}
use Rattle.deferral.specs.Laying.{first_deadline, with_jobs}
use Rattle.deferral.proofs.Counting.{between_first, between_last, between_none, between_part, last_free_none, one_if, one_if_free, one_if_taken}
use Rattle.deferral.proofs.Scanning.{last_with, last_without}
use Rattle.deferral.proofs.Taking.{Longer, longer_down, longer_up, none_taken, not_yet, skipped, taken}

-- upward: the free slots below this one are taken, fewer than wanted
pub record ScannedUp (row work : ℕ) (old : List ℕ) (slot left : ℕ) (now : List ℕ) : Type 0 where
  pub laid : now ≡ with_jobs row (record { sample = 0; deadline = slot } ∷ []) old
  pub count : free_between (free_in old) 0 slot + left ≡ work
  pub wants : 1 ≤ left

-- downward: so are those from this one on and before the deadline
pub record ScannedDown (row work : ℕ) (old : List ℕ) (deadline slot left : ℕ) (now : List ℕ) : Type 0 where
  pub laid : now ≡ with_jobs row (record { sample = slot; deadline = deadline } ∷ []) old
  pub count : free_between (free_in old) slot deadline + left ≡ work
  pub wants : 1 ≤ left
  pub last : last_free (free_in old) deadline work ≡ last_free (free_in old) slot left

-- at first no slot is taken
pub starts_up : (row work : ℕ) (old : List ℕ) → 1 ≤ work → ScannedUp row work old 0 work old
starts_up row work old h = record { laid = none_taken row old 0; count = omega arith; wants = h }

-- nor is one downward
pub starts_down : (row work : ℕ) (old : List ℕ) (deadline : ℕ) → 1 ≤ work → ScannedDown row work old deadline deadline work old
starts_down row work old deadline h = record {
  laid = none_taken row old deadline;
  count = let e = between_none (free_in old) deadline deadline (omega arith) in omega arith;
  wants = h;
  last = refl;
}

-- too few are free up to there
too_few : {row work : ℕ} {old : List ℕ} {slot left : ℕ} {now : List ℕ} → ScannedUp row work old slot left now → (d : ℕ) → d ≤ slot → leb work (free_between (free_in old) 0 d) ≡ false
too_few {row} {work} {old} {slot} {left} {now} s d l =
    let f = between_part (free_in old) 0 0 d slot (omega arith) l in
    lt-leb work (free_between (free_in old) 0 d) (omega arith)

-- a slot that the scan upward comes to
module _ {row work : ℕ} {old : List ℕ} {slot left : ℕ} {now : List ℕ} (s : ScannedUp row work old slot left now) (h : slot < length old) where
  -- the span grows by it
  grows_up : Longer slot (record { sample = 0; deadline = slot }) (record { sample = 0; deadline = slot + 1 })
  grows_up = longer_up 0 slot (omega arith)

  -- it still holds what it held
  seen_up : (d : ℕ) → get_or now slot d ≡ get_or old slot d
  seen_up d = ap (λ (xs : List ℕ). get_or xs slot d) s.laid ∙ not_yet row old h grows_up d

  -- it is not free, and passed over
  pub up_past : (get_or now slot 0 ≡ 0 → ⊥) → ScannedUp row work old (slot + 1) left now
  up_past e =
      let not : free_in old slot ≡ false = ne_eqb (get_or old slot 0) 0 (λ z. e (seen_up 0 ∙ z)) in
      let more = between_last (free_in old) 0 slot (omega arith) in
      let none = one_if_taken (free_in old slot) not in
      record {
        laid = s.laid ∙ skipped row old h grows_up not;
        count = omega arith;
        wants = s.wants;
      }

  -- it is free
  free_up : get_or now slot 0 ≡ 0 → free_in old slot ≡ true
  free_up e = eq-eqb (get_or old slot 0) 0 (sym (seen_up 0) ∙ e)

  -- one slot less is wanted
  one_up_more : get_or now slot 0 ≡ 0 → free_between (free_in old) 0 (slot + 1) + (left - 1) ≡ work
  one_up_more e =
      let more = between_last (free_in old) 0 slot (omega arith) in
      let one = one_if_free (free_in old slot) (free_up e) in
      omega arith

  -- it is taken
  pub up_takes : get_or now slot 0 ≡ 0 → set now slot row ≡ with_jobs row (record { sample = 0; deadline = slot + 1 } ∷ []) old
  up_takes e = ap (λ (xs : List ℕ). set xs slot row) s.laid ∙ taken row old h grows_up (free_up e)

  -- and more are wanted
  pub up_more : get_or now slot 0 ≡ 0 → (left - 1 ≡ 0 → ⊥) → ScannedUp row work old (slot + 1) (left - 1) (set now slot row)
  up_more e n = record { laid = up_takes e; count = one_up_more e; wants = omega arith }

  -- or it is the last one wanted
  pub up_found : get_or now slot 0 ≡ 0 → left - 1 ≡ 0 → (limit : ℕ) → slot < limit → first_deadline (free_in old) work limit ≡ Some (slot + 1)
  up_found e z limit l =
      let test : ℕ → Bool = λ d. leb work (free_between (free_in old) 0 d) in
      let m = one_up_more e in
      only_some test limit (slot + 1) (least test limit) (least_tells test limit) (omega arith)
      (le-leb work (free_between (free_in old) 0 (slot + 1)) (omega arith))
      (λ d k. too_few s d (omega arith))

-- nor are enough at the end
pub up_lacks : {row work : ℕ} {old : List ℕ} {slot left : ℕ} {now : List ℕ} → ScannedUp row work old slot left now → (limit : ℕ) → limit ≤ slot → first_deadline (free_in old) work limit ≡ None
up_lacks {row} {work} {old} {slot} {left} {now} s limit l =
    let test : ℕ → Bool = λ d. leb work (free_between (free_in old) 0 d) in
    only_none test limit (least test limit) (least_tells test limit) (λ d k. too_few s d (omega arith))

-- a slot that the scan downward comes to
module _ {row work : ℕ} {old : List ℕ} {deadline slot left : ℕ} {now : List ℕ} (s : ScannedDown row work old deadline slot left now) (n : ℕ) (e : slot ≡ n + 1) (l : slot ≤ deadline) (h : deadline ≤ length old) where
  -- the span grows by it
  grows_down : Longer n (record { sample = n + 1; deadline = deadline }) (record { sample = n; deadline = deadline })
  grows_down = longer_down n deadline (omega arith)

  -- what is laid, with the slot that comes next
  laid_down : now ≡ with_jobs row (record { sample = n + 1; deadline = deadline } ∷ []) old
  laid_down = rw (sym e) s.laid

  -- it still holds what it held
  seen_down : (d : ℕ) → get_or now n d ≡ get_or old n d
  seen_down d = ap (λ (xs : List ℕ). get_or xs n d) laid_down ∙ not_yet row old (omega arith) grows_down d

  -- the free slots from it on
  between : free_between (free_in old) n deadline ≡ one_if (free_in old n) + free_between (free_in old) slot deadline
  between = rw e (between_first (free_in old) n deadline (omega arith))

  -- it is not free, and passed over
  pub down_past : (get_or now n 0 ≡ 0 → ⊥) → ScannedDown row work old deadline n left now
  down_past f =
      let not : free_in old n ≡ false = ne_eqb (get_or old n 0) 0 (λ z. f (seen_down 0 ∙ z)) in
      let more = between in
      let none = one_if_taken (free_in old n) not in
      record {
        laid = laid_down ∙ skipped row old (omega arith) grows_down not;
        count = omega arith;
        wants = s.wants;
        last = s.last ∙ rw e (last_without (free_in old) n left s.wants not);
      }

  -- it is free
  free_down : get_or now n 0 ≡ 0 → free_in old n ≡ true
  free_down f = eq-eqb (get_or old n 0) 0 (sym (seen_down 0) ∙ f)

  -- one slot less is wanted
  one_down_more : get_or now n 0 ≡ 0 → free_between (free_in old) n deadline + (left - 1) ≡ work
  one_down_more f =
      let more = between in
      let one = one_if_free (free_in old n) (free_down f) in
      omega arith

  -- it is taken
  pub down_takes : get_or now n 0 ≡ 0 → set now n row ≡ with_jobs row (record { sample = n; deadline = deadline } ∷ []) old
  down_takes f = ap (λ (xs : List ℕ). set xs n row) laid_down ∙ taken row old (omega arith) grows_down (free_down f)

  -- the others lie before it
  last_down : get_or now n 0 ≡ 0 → last_free (free_in old) deadline work ≡ last_free (free_in old) n (left - 1)
  last_down f = s.last ∙ rw e (last_with (free_in old) n left s.wants (free_down f))

  -- and more are wanted
  pub down_more : get_or now n 0 ≡ 0 → (left - 1 ≡ 0 → ⊥) → ScannedDown row work old deadline n (left - 1) (set now n row)
  down_more f z = record { laid = down_takes f; count = one_down_more f; wants = omega arith; last = last_down f }

  -- or it is the last one wanted, and the earliest
  pub down_found : get_or now n 0 ≡ 0 → left - 1 ≡ 0 → n ≡ last_free (free_in old) deadline work
  down_found f z = sym (last_down f ∙ (ap (λ (m : ℕ). last_free (free_in old) n m) z ∙ last_free_none (free_in old) n))

  -- so that there is room
  pub down_has : get_or now n 0 ≡ 0 → left - 1 ≡ 0 → (from : ℕ) → from ≤ n → ltb (free_between (free_in old) from deadline) work ≡ false
  down_has f z from k =
      let m = one_down_more f in
      let o = between_part (free_in old) from n deadline deadline k (omega arith) in
      le-ltb (free_between (free_in old) from deadline) work (omega arith)

-- at the end too few are free
pub down_lacks : {row work : ℕ} {old : List ℕ} {deadline slot left : ℕ} {now : List ℕ} → ScannedDown row work old deadline slot left now → (from : ℕ) → slot ≤ from → ltb (free_between (free_in old) from deadline) work ≡ true
down_lacks {row} {work} {old} {deadline} {slot} {left} {now} s from l =
    let o = between_part (free_in old) slot from deadline deadline l (omega arith) in
    lt-ltb (free_between (free_in old) from deadline) work (omega arith)
