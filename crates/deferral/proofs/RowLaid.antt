-- The law of a laid row, from the search for its first job and for those after it.
use Rattle.std.proofs.Common.{◌≡◌, ◌↔◌, ℕ, zero, suc, ◌+◌, ◌-◌, ◌<◌, ◌≤◌, true, Some, List, ◌∷◌, nat_le, refl, ap, subst, inl, inr, add-one, arith}
use Rattle.std.proofs.lemmas.Bool.{cases_Bool, cases_lt, cases_order, leb-false, leb-true}
use Rattle.std.specs.List.{list_any}
use Rattle.planner.proofs.Least.{Tells, least_tells}
use Rattle.readings.specs.declared.reading.Reading.{Reading}
use Rattle.deferral.proofs.Counting.{between_last, between_none, one_if_small, one_if_taken}
use Rattle.deferral.proofs.Following.{Follow, span_from}
use Rattle.deferral.proofs.Rules.{next_earliest}
use Rattle.deferral.specs.Free.{Free, Play, free_below, free_between}
use Rattle.deferral.specs.Jobs.{FirstJob, NextJob, takes}
use Rattle.deferral.specs.Laid.{LaidRow}
use Rattle.deferral.specs.Laying.{first_deadline, last_deadline}
use Rattle.deferral.specs.declared.span.Span.{Span}

-- a first job
abbrev pub first_span : ℕ → Span
first_span d = record { sample = 0; deadline = d }

-- the least d with c free slots before it is that of a first job
first_from : (f : Free) (c d : ℕ) → 0 < c → c ≤ free_between f 0 d → ((b : ℕ) → b < d → free_between f 0 b < c) → FirstJob f c d
first_from f c d some enough before =
    let none = between_none f 0 0 (omega arith) in
    let past : d ≡ (d - 1) + 1 =
    elim (cases_lt 0 d) [
      | inl more ↦ omega arith
      | inr here ↦ let z : d ≡ 0 = omega arith in let e : c ≤ free_between f 0 0 = rw z at enough in absurd (omega arith)
    ] in
    let less = before (d - 1) (omega arith) in
    let last = between_last f 0 (d - 1) (omega arith) in
    let all : free_between f 0 d ≡ free_between f 0 ((d - 1) + 1) = ap (free_between f 0) past in
    let one = one_if_small (f (d - 1)) in
    record {
      last = d - 1;
      past_last = past;
      last_is_free = elim (cases_Bool (f (d - 1))) [ inl free ↦ free | inr taken ↦ let zero = one_if_taken _ taken in absurd (omega arith) ];
      count = omega arith;
    }

-- what the search for the deadline of a first job finds
pub first_is : (f : Free) (c limit d : ℕ) → 0 < c → first_deadline f c limit ≡ Some d → FirstJob f c d × (d ≤ limit)
first_is f c limit d some e =
    let test = λ (b : ℕ). nat_le c (free_between f 0 b) in
    let tells : Tells test limit (Some d) = subst (Tells test limit) e (least_tells test limit) in
    (first_from f c d some (leb-true c (free_between f 0 d) tells.0) (λ b l. leb-false c (free_between f 0 b) (tells.2 b l)), tells.1)

-- a row's first job, with deadline d, and the jobs js after it are all that come up to the limit, and
-- the row runs in the slots that they take
pub record RowJobs (play : Play) (k : ℕ) (r : Reading) (some : 0 < r.work) (limit d : ℕ) (js : List Span) (f : Free) : Type 0 where
  pub first : FirstJob f r.work d
  pub follow : Follow f r.work r.validity some limit (first_span d) js
  pub runs : (n : ℕ) → (play n ≡ k + 1) ↔ (list_any (λ s. takes f s n) (first_span d ∷ js) ≡ true)

module _ (play : Play) (k : ℕ) (r : Reading) (some : 0 < r.work) (limit d : ℕ) (js : List Span) where
  -- what is free for the row
  abbrev free : Free
  free = free_below play k

  -- its jobs, the first of them with deadline d
  abbrev spans : ℕ → Span
  spans = span_from free r.work r.validity (first_span d)

  module _ (w : RowJobs play k r some limit d js free) where
    -- the next job after each but the last
    next : (j : ℕ) → j < w.follow.last → NextJob free r.work r.validity (spans j) (spans (j + 1))
    next j h = rw add-one (w.follow.next j h)

    -- each job has all its slots
    work : (j : ℕ) → j ≤ w.follow.last → free_between free (spans j).sample (spans j).deadline ≡ r.work
    work zero h = w.first.count
    work (suc j) h = (w.follow.next j (omega arith)).count

    -- its sample lies before its deadline
    before : (j : ℕ) → j ≤ w.follow.last → (spans j).sample < (spans j).deadline
    before zero h = let past = w.first.past_last in omega arith
    before (suc j) h = (next_earliest free r.work r.validity (spans j) (spans (suc j)) some (w.follow.next j (omega arith))).before

    -- and it lies before every job after it
    apart : (i j : ℕ) → i < j → j ≤ w.follow.last → (spans i).deadline ≤ (spans j).sample
    apart i zero h l = absurd (omega arith)
    apart i (suc j) h l =
        let later = (w.follow.next j (omega arith)).later in
        elim (cases_order i j) [
          | inl same ↦ rw same later
          | inr (inl less) ↦ let all = apart i j less (omega arith) in let here = before j (omega arith) in omega arith
          | inr (inr more) ↦ absurd (omega arith)
        ]

    -- so the row is laid, and leaves the deadline of its last job as the limit
    pub row_laid : LaidRow play k r limit (last_deadline (first_span d) js)
    row_laid =
        record {
          spans = spans;
          last = w.follow.last;
          jobs = record {
            first_sample = refl;
            first = w.first;
            next = λ j h. next j (omega arith);
            runs = λ n. (λ e. w.follow.one_takes n ((w.runs n).0 e), λ t. (w.runs n).1 (w.follow.any_takes n t.0 t.1 t.2));
          };
          work = work;
          apart = apart;
          spread = λ j h. let due = (next j h).deadline in omega arith;
          within = w.follow.within;
          over = w.follow.over;
          leaves = w.follow.ends;
        }

    -- which is not 0
    pub leaves_some : 1 ≤ last_deadline (first_span d) js
    leaves_some = let ends = w.follow.ends in let here = before w.follow.last (omega arith) in omega arith
