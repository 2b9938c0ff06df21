-- The numbers given make a list exactly when no row has a refusal.
use Rattle.std.proofs.Common.{◌≡◌, ℕ, ◌+◌, ◌-◌, ◌<◌, ◌≤◌, Bool, true, false, cond, List, [], map, length, get_or, take, Some, None, Option, refl, sym, ap, ◌∙◌, arith}
use Rattle.std.proofs.lemmas.List.{get_or-take, get_or-map, length-map, length-take-le}
use Rattle.std.proofs.lemmas.List.Sorted.{IsNonDecreasingBy-from_all_adjacent}
use Rattle.readings.specs.Proposals.{is_list_length, kept, list_refusal, no_proposal, refusal_at, rows_refusal}
use Rattle.readings.specs.Ranges.{WellMade, blank}
use Rattle.readings.specs.Refusals.{Content}
use Rattle.readings.specs.declared.reading.Proposal.{Proposal}
use Rattle.readings.specs.declared.reading.Reading.{Reading}
use Rattle.readings.proofs.Refused.{Sound, counted, from_sound, none_refused, not_there, nowhere, sound, unrefused}

-- numbers that a reading can hold
pub record Fits (p : Proposal) : Type 0 where
  pub id : p.id ≤ 65535
  pub work : p.work ≤ 255
  pub validity : p.validity ≤ 4095

row_at : (ps : List Proposal) (k : ℕ) (d : Reading) → k < length ps → get_or (map kept ps) k d ≡ kept (get_or ps k no_proposal)
row_at ps k d h = get_or-map kept ps k no_proposal d h

inside : (ps : List Proposal) (k : ℕ) → k < length (map kept ps) → k < length ps
inside ps k h = omega (arith, length-map ps kept)

module _ (ps : List Proposal) (none : (k : ℕ) → k < length ps → refusal_at ps k ≡ None) where
  at : (k : ℕ) → k < length ps → Sound ps k
  at k h = sound ps k h (none k h)

  pub fits : (k : ℕ) → k < length ps → Fits (get_or ps k no_proposal)
  fits k h = let s = at k h in record { id = s.id_high; work = s.work_high; validity = s.validity_high }

  pub well_made : 1 ≤ length ps → length ps ≤ 16 → WellMade (map kept ps)
  well_made low high =
      let n = length-map ps kept in
      record {
        some = omega arith;
        few = omega arith;
        ids = λ k d h. let i = inside ps k h in let s = at k i in rw (row_at ps k d i) (s.id_low, s.id_high);
        works = λ k d h. let i = inside ps k h in let s = at k i in rw (row_at ps k d i) (s.work_low, s.work_high);
        validities = λ k d h. let i = inside ps k h in let s = at k i in rw (row_at ps k d i) (s.validity_low, s.validity_high, s.work_fits);
        apart = λ j k d l h.
            let i = inside ps k h in
            let s = at k i in
            rw (row_at ps j d (omega arith), row_at ps k d i)
            (λ e. not_there (get_or ps k no_proposal).id (take k ps) s.id_new j (rw (length-take-le k ps (omega arith)) l) (ap (λ (p : Proposal). p.id) (get_or-take k ps j no_proposal l) ∙ e));
        ordered = IsNonDecreasingBy-from_all_adjacent (λ (r : Reading). r.validity) (map kept ps) (λ k d h.
            let i = inside ps (k + 1) h in
            let s = at (k + 1) i in
            let same : k + 1 - 1 ≡ k = omega arith in
            rw (row_at ps k d (omega arith), row_at ps (k + 1) d i) (rw same at s.ordered));
      }

-- no row of what makes a list is refused
pub unrefused_rows : (ps : List Proposal) → WellMade (map kept ps) → rows_refusal ps ≡ None
unrefused_rows ps w = none_refused ps (λ k h. from_sound ps k h (holds k h))
  where
    holds : (k : ℕ) → k < length ps → Sound ps k
    holds k h =
        let n = length-map ps kept in
        let i : k < length (map kept ps) = omega arith in
        let id = rw (row_at ps k blank h) at (w.ids k blank i) in
        let work = rw (row_at ps k blank h) at (w.works k blank i) in
        let validity = rw (row_at ps k blank h) at (w.validities k blank i) in
        record {
          id_low = id.0;
          id_high = id.1;
          id_new = nowhere (get_or ps k no_proposal).id (take k ps) (λ j l e.
              let m = length-take-le k ps (omega arith) in
              let below : j < k = omega arith in
              (rw (row_at ps j blank (omega arith), row_at ps k blank h) at (w.apart j k blank below i)) (sym (ap (λ (p : Proposal). p.id) (get_or-take k ps j no_proposal below)) ∙ e));
          work_low = work.0;
          work_high = work.1;
          validity_low = validity.0;
          validity_high = validity.1;
          work_fits = validity.2;
          ordered = rw (row_at ps (k - 1) blank (omega arith), row_at ps k blank h) at (w.ordered (k - 1) k blank (omega arith) i);
        }

-- numbers that are not refused make a list
pub made : (ps : List Proposal) → list_refusal ps ≡ None → WellMade (map kept ps)
made ps e =
    let both = unrefused_list (is_list_length (length ps)) (rows_refusal ps) e in
    let n = counted (length ps) (sym both.0) in
    well_made ps (unrefused ps (sym both.1)) n.0 n.1
  where
    unrefused_list : (within : Bool) (rows : Option Content) → cond within rows (Some (1, [])) ≡ None → (within ≡ true) × (rows ≡ None)
    unrefused_list true rows e = (refl, e)
    unrefused_list false rows e = absurd cc
