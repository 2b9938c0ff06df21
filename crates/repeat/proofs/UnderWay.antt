-- A search under way, step by step.
use Rattle.std.proofs.Common.{◌≡◌, ℕ, ◌+◌, ◌<◌, ◌≤◌, Bool, true, false, Some, None, Option, Ok, Err, sym, refl, ap, ◌∙◌, subst, inl, inr, add-one, arith, below_more}
use Rattle.std.proofs.lemmas.Bool.{both_ways, cases_lt}
use Rattle.std.specs.Prelude.{if◌then◌else◌}
use Rattle.repeat.proofs.Marks.{largest}
use Rattle.repeat.specs.Finds.{NoFaultBefore, Finds, Stepping, NoRepeatUpTo}
use Rattle.repeat.specs.Marks.{after, is_next_mark, mark_of}
use Rattle.repeat.specs.SearchStep.{StepEnds, after_step, search_from}
use Rattle.repeat.specs.declared.found.NoRepeat.{NoRepeat}
use Rattle.repeat.specs.declared.found.NoRepeat.TheVariants.{Fault, Nowhere}
use Rattle.repeat.specs.declared.found.Repeat.{Repeat}
use Rattle.repeat.specs.declared.search.Search.{Search}

module _ {S F : Type 0} (steps : Stepping S F) (s : S) where
  -- before the step of a slot: no fault and no repeat so far, and the mark is the next instant's
  pub record UnderWay (slot : ℕ) (x : Search S) : Type 0 where
    pub stands : x.here ≡ after steps.next slot s
    pub mark_is : x.mark ≡ mark_of (slot + 1)
    pub kept_is : x.kept ≡ after steps.next x.mark s
    pub faultless : NoFaultBefore steps s slot
    pub unrepeated : NoRepeatUpTo steps s slot

  -- so a search begins
  pub begins : UnderWay 0 (search_from s)
  begins =
      record {
        stands = refl;
        mark_is = refl;
        kept_is = refl;
        faultless = λ u h. absurd (omega arith);
        unrepeated = λ t h upto. absurd (omega arith);
      }

  -- what the step of that slot makes of it
  module _ (slot : ℕ) (x : Search S) (w : UnderWay slot x) where
    -- the fault that the step of the slot meets, if any
    fault_here : (o : Option F) → steps.fault x.here ≡ o → steps.fault (after steps.next slot s) ≡ o
    fault_here o e = ap steps.fault (sym w.stands) ∙ e

    -- without one, the steps so far meet none
    faultless_more : steps.fault x.here ≡ None → NoFaultBefore steps s (slot + 1)
    faultless_more e = below_more _ slot w.faultless (fault_here None e)

    -- where the step leads is the state at the next instant
    next_stands : steps.next x.here ≡ after steps.next (slot + 1) s
    next_stands = rw add-one (ap steps.next w.stands)

    -- and it is compared with the state at that instant's mark
    compared : (b : Bool) → steps.alike (steps.next x.here) x.kept ≡ b → steps.alike (after steps.next (slot + 1) s) (after steps.next (mark_of (slot + 1)) s) ≡ b
    compared b e =
        let there = next_stands in
        let mark_there : x.kept ≡ after steps.next (mark_of (slot + 1)) s = w.kept_is ∙ ap (λ (n : ℕ). after steps.next n s) w.mark_is in
        cc

    -- where they compare no, nothing repeats so far
    unrepeated_more : steps.alike (steps.next x.here) x.kept ≡ false → NoRepeatUpTo steps s (slot + 1)
    unrepeated_more e t h upto again =
        elim (cases_lt slot t) [
          | inl more ↦
              let same : t ≡ slot + 1 = omega arith in
              both_ways _ (compared false e) (rw same at again)
          | inr less ↦ w.unrepeated t h less again
        ]

    -- a repeat that a step ends with is what the search finds
    pub repeat_found : (limit : ℕ) (found : Repeat) → slot < limit → StepEnds steps slot x (Ok (Some found)) → Finds steps s limit (Ok found)
    repeat_found limit found h (faultless, same, is) =
        let t : found.instant ≡ slot + 1 = ap (λ (r : Repeat). r.instant) is in
        let m : found.mark ≡ mark_of (slot + 1) = ap (λ (r : Repeat). r.mark) is ∙ w.mark_is in
        let below = (largest (slot + 1) (omega arith)).below in
        record {
          from_one = omega arith;
          within = omega arith;
          mark_is = rw t m;
          below = omega arith;
          repeats = rw t (compared true same);
          faultless = rw t (faultless_more faultless);
          first = λ u g less. w.unrepeated u g (omega arith);
        }

    -- and so is a fault
    pub fault_found : (limit : ℕ) (end : NoRepeat F) → slot < limit → StepEnds steps slot x (Err end) → Finds steps s limit (Err end)
    fault_found limit (Fault t met) h (meets, is) =
        record {
          within = omega arith;
          meets = rw is (fault_here (Some met) meets);
          faultless = rw is w.faultless;
          unrepeated = rw is w.unrepeated;
        }
    fault_found limit Nowhere h none = absurd none

    -- a search that comes to the limit finds nothing
    pub nowhere : (limit : ℕ) → limit ≤ slot → Finds steps s limit (Err Nowhere)
    nowhere limit h = record { faultless = λ u less. w.faultless u (omega arith); unrepeated = λ t g upto. w.unrepeated t g (omega arith) }

    -- a step that does not end the search leads to the next slot
    pub onward : (to : Search S) → StepEnds steps slot x (Ok None) → to ≡ after_step steps slot x → UnderWay (slot + 1) to
    onward to (faultless, other) is =
        subst (UnderWay (slot + 1)) (sym is) (record {
          stands = next_stands;
          mark_is = rw (add-one (slot + 1), ← w.mark_is);
          kept_is = elim (is_next_mark x.mark (slot + 1)) as (λ (b : Bool). (if b then steps.next x.here else x.kept) ≡ after steps.next (if b then slot + 1 else x.mark) s) [ true ↦ next_stands | false ↦ w.kept_is ];
          faultless = faultless_more faultless;
          unrepeated = unrepeated_more other;
        })
