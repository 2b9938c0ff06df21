-- The rules give one ending only for each example.
use Rattle.std.proofs.Common.{◌≡◌, ℕ, ◌<◌, Bool, true, false, List, [], ◌∷◌, map, length, get_or, Some, Ok, Err, Result, sym, refl, ap, ◌∙◌, subst, inl, inr}
use Rattle.std.proofs.lemmas.Bool.{both_ways, cases_order}
use Rattle.std.proofs.lemmas.Bool.Decides.{same_from_decides}
use Rattle.readings.specs.Ranges.{blank}
use Rattle.readings.specs.Refusals.{content}
use Rattle.readings.specs.declared.reading.Reading.{Reading}
use Rattle.readings.specs.declared.refusal.Refusal.{Refusal}
use Rattle.readings.specs.declared.refusal.Refusal.TheVariants.{JobRule, NoRepeat, Response, Stale}
use Rattle.policy.specs.Course.{Course, Meaning}
use Rattle.planner.specs.Periods.{half_half}
use Rattle.planner.specs.declared.timing.Timing.{Timing}
use Rattle.periodic.specs.Meanings.{periodic_meaning}
use Rattle.books.specs.Slots.{books_at}
use Rattle.books.specs.declared.row.Row.{Row}
use Rattle.walk.specs.Crossings.{InTime, MayCross}
use Rattle.walk.specs.Finishes.{FirstFinish, is_shown}
use Rattle.walk.specs.Walks.{Outcome, Walks, granted, refused}
use Rattle.walk.proofs.Looking.{walks_one}
use Rattle.examples.specs.Endings.{CrossingGives, CrossingTest, FinishesGive, PeriodsGive, ResponsesGive, SlotGives, TooLongGives, WalkGives}
use Rattle.examples.specs.Kinds.{inactive_meaning, never_alike_meaning}
use Rattle.examples.specs.Lists.{first_phases, new_books, readings_x, readings_y, readings_z}
use Rattle.examples.specs.Rules.{RulesGive, XToY}
use Rattle.examples.specs.declared.example.Example.{Example}
use Rattle.examples.specs.declared.example.Example.TheVariants.{HalfHalfPeriodsOfX, HalfHalfOfX, ResponsesOfX, PeriodsOfX, MoreLessOfX, FinishesOfX, PeriodsOfY, MoreLessOfY, RowThreeOfY, MoreLessOfZ, InactiveOverX, NeverAlikeOverX, CrossingAtOne, CrossingAtSix, CrossingAtSeven}
use Rattle.examples.specs.declared.ending.Ending.{Ending}
use Rattle.examples.specs.declared.ending.Ending.TheVariants.{Granted, EachRow, Judged, Says}
use Rattle.examples.proofs.Contents.{refusal_with, refusal_with-content}
use Rattle.examples.proofs.Gives.{age_twelve, at_one, at_seven, at_six, course_x, course_y, first_x, second_x, third_x}
use Rattle.examples.proofs.Periods.{refusal_z, response_first, response_only, response_second, response_third, too_long}
use Rattle.examples.proofs.Walked.{given_x, given_y, half_half_walks, inactive_walks, known, never_alike_walks, timings_x, timings_y, walks_x, walks_y}

-- the ending of a walk with this outcome
abbrev ending_of : Outcome → Result Ending Refusal
ending_of (granted mark length) = Ok (Granted mark length)
ending_of (refused t) = Err (refusal_with t)

module _ {Pos : Type 0} (kind : Meaning Pos) (p : Pos) (ds : List Reading) (x : Outcome) (w : Walks kind p (new_books ds) x) where
  -- a walk has one outcome only
  one : (y : Outcome) → Walks kind p (new_books ds) y → ending_of y ≡ ending_of x
  one y v = ap ending_of (walks_one kind p (new_books ds) y x v w)

  pub walk_only : (e : Result Ending Refusal) → WalkGives kind p ds e → e ≡ ending_of x
  walk_only (Ok (Granted mark length)) v = one (granted mark length) v
  walk_only (Err r) v =
      ap Err (sym (refusal_with-content r)) ∙ one (refused (content r)) v
  walk_only (Ok _) v = absurd v

periods_only : (ts : List Timing) (a b c : ℕ)
    → map (λ (t : Timing). t.period) ts ≡ a ∷ b ∷ c ∷ []
    → (e : Result Ending Refusal) → PeriodsGive ts e → e ≡ Ok (EachRow a b c)
periods_only ts a b c is (Ok (EachRow first second third)) v =
    let same : ◌≡◌ {A = List ℕ} (first ∷ second ∷ third ∷ []) (a ∷ b ∷ c ∷ []) = sym v ∙ is in
    cc
periods_only ts a b c is _ v = absurd v

responses_only : (e : Result Ending Refusal) → ResponsesGive readings_x timings_x e
    → e ≡ Ok (EachRow 1 3 6)
responses_only (Ok (EachRow first second third)) v =
    let a = response_only _ _ _ first 1 v.0 response_first in
    let b = response_only _ _ _ second 3 v.1 response_second in
    let c = response_only _ _ _ third 6 v.2 response_third in
    cc
responses_only _ v = absurd v

too_long_only : (e : Result Ending Refusal) → TooLongGives readings_z 1 7 e → e ≡ Err (Response 2)
too_long_only (Ok _) v = absurd v
too_long_only (Err r) v = ap Err (refusal_z r v.refused)

-- a row has one first finish
finish_only : (c : Course) (rs : List Row) (k m n : ℕ)
    → FirstFinish c rs k m → FirstFinish c rs k n → m ≡ n
finish_only c rs k m n v w =
    elim (cases_order m n) [
      | inl same ↦ same
      | inr (inl less) ↦ absurd (both_ways (is_shown c rs k m) (w.not_before m less) v.here)
      | inr (inr more) ↦ absurd (both_ways (is_shown c rs k n) (v.not_before n more) w.here)
    ]

finishes_only : (e : Result Ending Refusal) → FinishesGive course_x readings_x e
    → e ≡ Ok (EachRow 1 3 6)
finishes_only (Ok (EachRow first second third)) v =
    let a = finish_only course_x (new_books readings_x) 0 first 1 v.0 first_x in
    let b = finish_only course_x (new_books readings_x) 1 second 3 v.1 second_x in
    let c = finish_only course_x (new_books readings_x) 2 third 6 v.2 third_x in
    cc
finishes_only _ v = absurd v

slot_only : (e : Result Ending Refusal) → SlotGives course_y readings_y 11 2 e
    → e ≡ Ok (Judged 12 (Some 3))
slot_only (Ok (Judged age shown)) v =
    let a : age ≡ 12 = sym v.reached in
    let s = v.shows in
    cc
slot_only _ v = absurd v

-- first finishes in one list or in another are the same, so that the test is
test_moved : (rs : List Row) (d : Course) (new : List Reading) (fs gs : List ℕ)
    → ((k : ℕ) → k < length new → FirstFinish d (new_books new) k (get_or fs k 0))
    → ((k : ℕ) → k < length new → FirstFinish d (new_books new) k (get_or gs k 0))
    → MayCross rs new fs → MayCross rs new gs
test_moved rs d new fs gs v w m =
    record {
      idle = m.idle;
      in_time = λ k l.
          subst (λ (n : ℕ). InTime rs (get_or new k blank) n)
          (finish_only d (new_books new) k (get_or fs k 0) (get_or gs k 0) (v k l) (w k l))
          (m.in_time k l);
    }

test_only : (c : Course) (old : List Reading) (n : ℕ) (d : Course) (new : List Reading) (a b : Bool)
    → CrossingTest c old n d new a → CrossingTest c old n d new b → a ≡ b
test_only c old n d new a b v w =
    let rs : List Row = books_at c (new_books old) n in
    same_from_decides a b v.says (
      λ e. test_moved rs d new w.finishes v.finishes w.first v.first (w.says.0 e),
      λ m. w.says.1 (test_moved rs d new v.finishes w.finishes v.first w.first m),
    )

crossing_only : (n : ℕ) (b : Bool) → CrossingTest course_x readings_x n course_y readings_y b
    → (e : Result Ending Refusal) → CrossingGives course_x readings_x n course_y readings_y e
    → e ≡ Ok (Says b)
crossing_only n b w (Ok (Says said)) v =
    ap (λ (s : Bool). Ok (Says s)) (test_only course_x readings_x n course_y readings_y said b v w)
crossing_only n b w _ v = absurd v

crossed_only : (n : ℕ) (b : Bool) → CrossingTest course_x readings_x n course_y readings_y b
    → (e : Result Ending Refusal) → XToY n e → e ≡ Ok (Says b)
crossed_only n b w e g =
    crossing_only n b w e
    (known readings_y timings_y given_y _ (known readings_x timings_x given_x _ g))

-- the one ending of each example
abbrev pub the_ending : Example → Result Ending Refusal
the_ending HalfHalfPeriodsOfX = Ok (EachRow 2 5 10)
the_ending HalfHalfOfX = Err (JobRule 10 3)
the_ending ResponsesOfX = Ok (EachRow 1 3 6)
the_ending PeriodsOfX = Ok (EachRow 4 7 14)
the_ending MoreLessOfX = Ok (Granted 31 28)
the_ending FinishesOfX = Ok (EachRow 1 3 6)
the_ending PeriodsOfY = Ok (EachRow 6 6 6)
the_ending MoreLessOfY = Ok (Granted 7 6)
the_ending RowThreeOfY = Ok (Judged 12 (Some 3))
the_ending MoreLessOfZ = Err (Response 2)
the_ending InactiveOverX = Err (Stale 5 1)
the_ending NeverAlikeOverX = Err NoRepeat
the_ending CrossingAtOne = Ok (Says false)
the_ending CrossingAtSix = Ok (Says true)
the_ending CrossingAtSeven = Ok (Says false)

-- the rules give it
given : (a : Example) → RulesGive a (the_ending a)
unfolding RulesGive
given HalfHalfPeriodsOfX = refl
given HalfHalfOfX = half_half_walks
given ResponsesOfX = (timings_x, (given_x, (response_first, response_second, response_third)))
given PeriodsOfX = (timings_x, (given_x, refl))
given MoreLessOfX = (timings_x, (given_x, walks_x))
given FinishesOfX = (timings_x, (given_x, (first_x, second_x, third_x)))
given PeriodsOfY = (timings_y, (given_y, refl))
given MoreLessOfY = (timings_y, (given_y, walks_y))
given RowThreeOfY = (timings_y, (given_y, age_twelve))
given MoreLessOfZ = too_long
given InactiveOverX = inactive_walks
given NeverAlikeOverX = (timings_x, (given_x, never_alike_walks))
given CrossingAtOne = (timings_x, (given_x, (timings_y, (given_y, at_one))))
given CrossingAtSix = (timings_x, (given_x, (timings_y, (given_y, at_six))))
given CrossingAtSeven = (timings_x, (given_x, (timings_y, (given_y, at_seven))))

-- and nothing else
pub ending_is : (a : Example) (e : Result Ending Refusal) → RulesGive a e → e ≡ the_ending a
unfolding RulesGive
ending_is HalfHalfPeriodsOfX e g = periods_only (half_half readings_x) 2 5 10 refl e g
ending_is HalfHalfOfX e g =
    walk_only periodic_meaning (first_phases (half_half readings_x)) readings_x
    (refused (11, 10 ∷ 3 ∷ [])) half_half_walks e g
ending_is ResponsesOfX e g = responses_only e (known readings_x timings_x given_x _ g)
ending_is PeriodsOfX e g =
    periods_only timings_x 4 7 14 refl e (known readings_x timings_x given_x _ g)
ending_is MoreLessOfX e g =
    walk_only periodic_meaning (first_phases timings_x) readings_x (granted 31 28) walks_x e
    (known readings_x timings_x given_x _ g)
ending_is FinishesOfX e g = finishes_only e (known readings_x timings_x given_x _ g)
ending_is PeriodsOfY e g =
    periods_only timings_y 6 6 6 refl e (known readings_y timings_y given_y _ g)
ending_is MoreLessOfY e g =
    walk_only periodic_meaning (first_phases timings_y) readings_y (granted 7 6) walks_y e
    (known readings_y timings_y given_y _ g)
ending_is RowThreeOfY e g = slot_only e (known readings_y timings_y given_y _ g)
ending_is MoreLessOfZ e g = too_long_only e g
ending_is InactiveOverX e g =
    walk_only inactive_meaning tt readings_x (refused (12, 5 ∷ 1 ∷ [])) inactive_walks e g
ending_is NeverAlikeOverX e g =
    walk_only (never_alike_meaning periodic_meaning) (first_phases timings_x) readings_x
    (refused (13, [])) never_alike_walks e (known readings_x timings_x given_x _ g)
ending_is CrossingAtOne e g = crossed_only 1 false at_one e g
ending_is CrossingAtSix e g = crossed_only 6 true at_six e g
ending_is CrossingAtSeven e g = crossed_only 7 false at_seven e g

pub given_as : (a : Example) (r : Result Ending Refusal) → r ≡ the_ending a → RulesGive a r
given_as a r e = subst (RulesGive a) (sym e) (given a)

-- so that it is the only one
pub ruleset one_ending = (given_as, ending_is)
