-- More-Less row by row, and its laws.
use Rattle.std.proofs.Common.{◌≡◌, ℕ, ◌+◌, ◌-◌, ◌<◌, ◌≤◌, List, [], ◌∷◌, ◌++◌, length, get_or, drop, Some, None, Err, Option, Result, sym, refl, ap, ◌∙◌, subst, inl, inr, arith, MatchOption}
use Rattle.std.specs.Option.{option_map_or}
use Rattle.std.proofs.lemmas.List.{append_assoc, append-nil, at_drop_more, get_or_append_left, get_or_at, length-append, length_push, take-append-le, take_at}
use Rattle.std.proofs.lemmas.Bool.{cases_lt}
use Rattle.readings.specs.Ranges.{blank as no_reading}
use Rattle.readings.specs.Refusals.{Content}
use Rattle.readings.specs.declared.reading.Reading.{Reading}
use Rattle.planner.specs.Periods.{MoreLess, MoreLessRow, NoneAt, Planned, more_less, more_less_below, timing_of}
use Rattle.planner.specs.Response.{IsResponseTime, NoResponseTime, response_time}
use Rattle.planner.specs.Timing.{blank_timing}
use Rattle.planner.specs.declared.timing.Timing.{Timing}
use Rattle.planner.proofs.Settling.{response_tells}

-- what More-Less does with a row, by its response time
abbrev by_response : List Timing → Reading → List Reading → Option ℕ → Result (List Timing) Content
by_response above r rs o = option_map_or (λ d. more_less_below (above ++ timing_of r (r.validity - d) ∷ []) rs) o (Err (5, (length above + 1) ∷ []))

-- it goes by the response time
goes_by : (above : List Timing) (r : Reading) (rs : List Reading) (o : Option ℕ) → response_time above r.work r.validity ≡ o → more_less_below above (r ∷ rs) ≡ by_response above r rs o
goes_by above r rs o e = subst (λ (p : Option ℕ). more_less_below above (r ∷ rs) ≡ by_response above r rs p) e refl

pub below_more : (above : List Timing) (given : List Reading) (k d : ℕ) → k < length given → response_time above (get_or given k no_reading).work (get_or given k no_reading).validity ≡ Some d → more_less_below above (drop k given) ≡ more_less_below (above ++ timing_of (get_or given k no_reading) ((get_or given k no_reading).validity - d) ∷ []) (drop (k + 1) given)
below_more above given k d h e = at_drop_more (more_less_below above) given k no_reading h ∙ goes_by above (get_or given k no_reading) (drop (k + 1) given) (Some d) e

none_planned : MoreLess [] []
none_planned = record { count = refl; rows = λ k h. absurd (omega arith) }

-- the law with one row more
module _ (done : List Reading) (above : List Timing) (law : MoreLess done above) (r : Reading) (d : ℕ) (found : IsResponseTime above r.work r.validity d) where
  new_row : MoreLessRow above r (timing_of r (r.validity - d))
  new_row =
      let low : d ≤ r.validity = omega (arith, found.half) in
      let left : r.validity - (r.validity - d) ≡ d = omega arith in
      record { work = refl; within = omega arith; response = rw left found }

  planned_more : MoreLess (done ++ r ∷ []) (above ++ timing_of r (r.validity - d) ∷ [])
  planned_more = record {
    count = length_push above _ ∙ ap (λ (n : ℕ). n + 1) law.count ∙ sym (length_push done r);
    rows = λ k h.
        let n = length_push done r in
        let m = law.count in
        elim (cases_lt k (length done)) [
          | inl less ↦
              rw (
                get_or_append_left done (r ∷ []) no_reading k less,
                get_or_append_left above (timing_of r (r.validity - d) ∷ []) blank_timing k (omega arith),
                take-append-le k above (timing_of r (r.validity - d) ∷ []) (omega arith),
              ) (law.rows k less)
          | inr more ↦
              (let e : length done ≡ k = omega arith in
              let f : length above ≡ k = omega arith in
              rw (get_or_at done r [] no_reading k e, get_or_at above (timing_of r (r.validity - d)) [] blank_timing k f, take_at above (timing_of r (r.validity - d) ∷ []) k f) new_row)
        ];
  }

-- the row without a response time
none_at : (done : List Reading) (above : List Timing) → MoreLess done above → (r : Reading) (rs : List Reading) → NoResponseTime above r.work r.validity → NoneAt (done ++ r ∷ rs) (length above)
none_at done above law r rs none =
    let e : length done ≡ length above = sym law.count in
    record {
      inside = simp length-append (omega arith);
      above = above;
      planned_above = rw (take_at done (r ∷ rs) (length above) e) law;
      unsettled = rw (get_or_at done r rs no_reading (length above) e) none;
    }

pub planned_below : (done : List Reading) (above : List Timing) → MoreLess done above → (rs : List Reading) → Planned (done ++ rs) (more_less_below above rs)
planned_below done above law [] = rw (append-nil done) law
planned_below done above law (r ∷ rs) =
    by (λ d h. planned_below (done ++ r ∷ []) (above ++ timing_of r (r.validity - d) ∷ []) (planned_more done above law r d h) rs)
    (response_time above r.work r.validity) refl (response_tells above r.work r.validity)
  where
    by : ((d : ℕ) → IsResponseTime above r.work r.validity d → Planned ((done ++ r ∷ []) ++ rs) (more_less_below (above ++ timing_of r (r.validity - d) ∷ []) rs)) → (o : Option ℕ) → response_time above r.work r.validity ≡ o → MatchOption o (NoResponseTime above r.work r.validity) (IsResponseTime above r.work r.validity) → Planned (done ++ r ∷ rs) (more_less_below above (r ∷ rs))
    by further (Some d) e h = rw (goes_by above r rs (Some d) e) (rw append_assoc at (further d h))
    by further None e h = rw (goes_by above r rs None e) (length above, refl, none_at done above law r rs h)

-- More-Less keeps to its law, and its refusal to its own
pub planned : (rs : List Reading) → Planned rs (more_less rs)
planned rs = planned_below [] [] none_planned rs
