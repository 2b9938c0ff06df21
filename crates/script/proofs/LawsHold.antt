-- The laws of whole scripts follow from how their lines are answered.
use Rattle.std.proofs.Common.{◌≡◌, ℕ, zero, suc, ◌+◌, ◌<◌, ◌≤◌, Bool, true, false, cond, ◌&&◌, ◌||◌, leb, List, [], ◌∷◌, length, Some, None, Option, Ok, Err, MatchBool, MatchOption, sym, refl, ap, ◌∙◌, subst, arith}
use Rattle.std.specs.Prelude.{zip, count_by, All, AllPairs}
use Rattle.std.proofs.lemmas.Bool.{leb-false}
use Rattle.std.proofs.Common.{◌⊎◌, inl, inr, Result, if◌then◌else◌, ◌==◌}
use Rattle.std.proofs.lemmas.List.Elements.{All-cons, All-nil}
use Rattle.std.proofs.lemmas.List.Kept.{AllPairs-cons}
use Rattle.std.proofs.lemmas.List.Sums.{sum_by-cons}
use Rattle.lines.specs.Pieces.{pieces}
use Rattle.lines.specs.Words.{command_of}
use Rattle.lines.specs.declared.command.CallLine.{CallLine}
use Rattle.lines.specs.declared.command.CallLine.TheVariants.{Start, Tick, Switch, Show, Stop}
use Rattle.lines.specs.declared.command.Command.{Command}
use Rattle.lines.specs.declared.command.Command.TheVariants.{Plan, Call}
use Rattle.lines.specs.declared.command.PlanLine.{PlanLine}
use Rattle.lines.specs.declared.command.PlanLine.TheVariants.{Begin, Reading, HalfHalf, MoreLess, Defer}
use Rattle.readings.specs.Refusals.{Content}
use Rattle.board.specs.Requests.{Request}
use Rattle.script.specs.Boards.{BankPosition}
use Rattle.script.specs.Calls.{CallLineAnswered, Met, TicksAnswered, WithPlan}
use Rattle.script.specs.Drafting.{Drafted, Drafting, end_of, nothing_drafted, plan_at, plan_ended, with_none_open}
use Rattle.script.specs.Laws.{AtMostTwoPlans, AnsweredLine, CallTaken, IsPlanLine, NoneRefused, NoPlansAfterCalls, Taken, TickReplies, answered_lines, begins_plan, grants_plan, is_done}
use Rattle.script.specs.Lines.{CommandAnswered, LineAnswered, PlanLineAnswered}
use Rattle.script.specs.declared.plan.Planner.{Planner}
use Rattle.script.specs.declared.plan.Planner.TheVariants as planner
use Rattle.script.specs.Plans.{Ready, plan_from}
use Rattle.script.specs.Replies.{Said, granted, refused, done, plan_said}
use Rattle.script.specs.States.{State, first_state, once_called}
use Rattle.script.specs.Texts.{LinesAnswered, Rehearses, rest_answer}

-- calls leave the plans as they are
ticks_drafts : (n : ℕ) (s : State) (rs : List Said) (u : State) → TicksAnswered n s rs u → u.drafts ≡ s.drafts
ticks_drafts zero s [] u x = ap (λ (v : State). v.drafts) x
ticks_drafts zero s (said ∷ rs) u x = absurd x
ticks_drafts (suc n) s [] u x = absurd x
ticks_drafts (suc n) s (done ∷ rs) u x = absurd x
ticks_drafts (suc n) s (granted grant ∷ rs) u x = ticks_drafts n _ rs u x.1
ticks_drafts (suc n) s (refused refusal ∷ []) u x = ap (λ (v : State). v.drafts) x.1
ticks_drafts (suc n) s (refused refusal ∷ more ∷ rs) u x = absurd x

with_plan_drafts : (call : Ready → Request BankPosition) (plan : Option Ready) (s : State) (rs : List Said) (u : State)
    → WithPlan call plan s rs u → u.drafts ≡ s.drafts
with_plan_drafts call None s rs u x = ap (λ (v : State). v.drafts) x.1
with_plan_drafts call (Some plan) s rs u x = ap (λ (v : State). v.drafts) x.state

call_line_drafts : (line : CallLine) (s : State) (rs : List Said) (u : State) → CallLineAnswered line s rs u → u.drafts ≡ s.drafts
call_line_drafts (Start p) s rs u x = with_plan_drafts _ (plan_at p s.drafts) s rs u x
call_line_drafts (Tick n) s rs u x = ticks_drafts n (once_called s) rs u x
call_line_drafts (Switch p latency) s rs u x = with_plan_drafts _ (plan_at p s.drafts) s rs u x
call_line_drafts (Show id) s rs u x = ap (λ (v : State). v.drafts) x.state
call_line_drafts Stop s rs u x = ap (λ (v : State). v.drafts) x.state

-- a call that is taken has called the board
ticks_called : (n : ℕ) (s : State) (rs : List Said) (u : State) → s.called ≡ true → TicksAnswered n s rs u → u.called ≡ true
ticks_called zero s [] u e x = ap (λ (v : State). v.called) x ∙ e
ticks_called zero s (said ∷ rs) u e x = absurd x
ticks_called (suc n) s [] u e x = absurd x
ticks_called (suc n) s (done ∷ rs) u e x = absurd x
ticks_called (suc n) s (granted grant ∷ rs) u e x = ticks_called n _ rs u refl x.1
ticks_called (suc n) s (refused refusal ∷ []) u e x = ap (λ (v : State). v.called) x.1
ticks_called (suc n) s (refused refusal ∷ more ∷ rs) u e x = absurd x

-- what is met by 24 or 25 is not taken
not_taken : (refusal : Content) (rs : List Said) → rs ≡ refused refusal ∷ [] → Taken rs → (refusal ≡ (24, []) → ⊥) × (refusal ≡ (25, []) → ⊥)
not_taken refusal rs e t =
    let one = subst Taken e t 0 done (omega arith) in
    (λ is. one.0 (ap refused is), λ is. one.1 (ap refused is))

-- a call that is met by 25 changes nothing, and any other has called the board
with_plan_called : (call : Ready → Request BankPosition) (plan : Option Ready) (s : State) (rs : List Said) (u : State)
    → WithPlan call plan s rs u → ((Taken rs → ⊥) × (u ≡ s)) ⊎ (u.called ≡ true)
with_plan_called call None s rs u x = inl (λ t. (not_taken (25, []) rs x.0 t).1 refl, x.1)
with_plan_called call (Some plan) s rs u x = inr (ap (λ (v : State). v.called) x.state)

call_line_called : (line : CallLine) (s : State) (rs : List Said) (u : State) → CallLineAnswered line s rs u
    → ((Taken rs → ⊥) × (u ≡ s)) ⊎ (u.called ≡ true)
call_line_called (Start p) s rs u x = with_plan_called _ (plan_at p s.drafts) s rs u x
call_line_called (Tick n) s rs u x = inr (ticks_called n (once_called s) rs u refl x)
call_line_called (Switch p latency) s rs u x = with_plan_called _ (plan_at p s.drafts) s rs u x
call_line_called (Show id) s rs u x = inr (ap (λ (v : State). v.called) x.state)
call_line_called Stop s rs u x = inr (ap (λ (v : State). v.called) x.state)

-- what a line of a plan does to the number of plans that have begun
if_begun : (b : Bool) (x y : Drafted) (n : ℕ) → x.1.begun ≡ n → y.1.begun ≡ n → (if b then x else y).1.begun ≡ n
if_begun true x y n e f = e
if_begun false x y n e f = f

ready_begun : (b : Bool) (x y : Drafting) (n : ℕ) → x.begun ≡ n → y.begun ≡ n → (if b then x else y).begun ≡ n
ready_begun true x y n e f = e
ready_begun false x y n e f = f

end_begun : (made : Result Ready Content) (d : Drafting) → (end_of made d).1.begun ≡ d.begun
end_begun (Ok plan) d = ready_begun (d.begun == 1) _ _ d.begun refl refl
end_begun (Err refusal) d = refl

ended_begun : (planner : Planner) (d : Drafting) → (plan_ended planner d).1.begun ≡ d.begun
ended_begun planner d =
    if_begun d.writing _ _ d.begun (end_begun (plan_from d.proposed planner) (with_none_open d)) refl

-- one more has begun where the answer says so, and there are at most two
record Counts (grants : Bool) (s u : State) : Type 0 where
  more : (cond grants 1 0) + s.drafts.begun ≤ u.drafts.begun
  within : u.drafts.begun ≤ 2

same_counts : (grants : Bool) (s u : State) → grants ≡ false → u.drafts.begun ≡ s.drafts.begun → s.drafts.begun ≤ 2 → Counts grants s u
same_counts true s u g e few = absurd cc
same_counts false s u g e few = record { more = omega arith; within = omega arith }

and_false : (b : Bool) → (b && false) ≡ false
and_false true = refl
and_false false = refl

done_not_refused : (refusal : Content) (rs : List Said) → rs ≡ refused refusal ∷ [] → is_done rs ≡ false
done_not_refused refusal rs e = ap is_done e

both_not : (a b : Bool) → a ≡ false → (a && b) ≡ false
both_not a b e = rw e refl

met_counts : (refusal : Content) (test : Bool) (s : State) (rs : List Said) (u : State) → Met refusal s rs u → s.drafts.begun ≤ 2
    → Counts (is_done rs && test) s u
met_counts refusal test s rs u x few =
    same_counts _ s u (both_not _ test (done_not_refused refusal rs x.0)) (ap (λ (v : State). v.drafts.begun) x.1) few

begin_counts : (s : State) (rs : List Said) (u : State) (test : Bool) → test ≡ (s.drafts.writing || leb 2 s.drafts.begun)
    → rs ≡ plan_said (if test then nothing_drafted s.drafts else (None, record s.drafts { begun = s.drafts.begun + 1; writing = true; proposed = [] })).0 ∷ []
    → u ≡ record s { drafts = (if test then nothing_drafted s.drafts else (None, record s.drafts { begun = s.drafts.begun + 1; writing = true; proposed = [] })).1 }
    → s.drafts.begun ≤ 2 → Counts (is_done rs && true) s u
begin_counts s rs u true t e f few = met_counts (24, []) true s rs u (e, f) few
begin_counts s rs u false t e f few =
    let room : leb 2 s.drafts.begun ≡ false = or_second s.drafts.writing _ (sym t) in
    let less : s.drafts.begun < 2 = leb-false 2 s.drafts.begun room in
    let b : u.drafts.begun ≡ s.drafts.begun + 1 = ap (λ (v : State). v.drafts.begun) f in
    let d : (is_done rs && true) ≡ true = ap (λ (rs : List Said). is_done rs && true) e in
    rw d (record { more = omega arith; within = omega arith }) where
      or_second : (a b : Bool) → (a || b) ≡ false → b ≡ false
      or_second true b h = absurd cc
      or_second false b h = h

plan_counts : (line : PlanLine) (s : State) (rs : List Said) (u : State) → PlanLineAnswered line s rs u → s.drafts.begun ≤ 2
    → Counts (is_done rs && begins_plan (Some (Plan line))) s u
plan_counts Begin s rs u x few = begin_counts s rs u _ refl x.0 x.1 few
plan_counts (Reading id work validity) s rs u x few =
    same_counts _ s u (and_false (is_done rs))
    (ap (λ (v : State). v.drafts.begun) x.1 ∙ if_begun s.drafts.writing _ _ s.drafts.begun refl refl) few
plan_counts HalfHalf s rs u x few =
    same_counts _ s u (and_false (is_done rs)) (ap (λ (v : State). v.drafts.begun) x.1 ∙ ended_begun planner.HalfHalf s.drafts) few
plan_counts MoreLess s rs u x few =
    same_counts _ s u (and_false (is_done rs)) (ap (λ (v : State). v.drafts.begun) x.1 ∙ ended_begun planner.MoreLess s.drafts) few
plan_counts (Defer slots) s rs u x few =
    same_counts _ s u (and_false (is_done rs)) (ap (λ (v : State). v.drafts.begun) x.1 ∙ ended_begun (planner.Defer slots) s.drafts) few

chosen : (b : Bool) {A B C : Type 0} → (A → C) → (B → C) → MatchBool b A B → C
chosen true f g x = f x
chosen false f g x = g x

-- the answer to a line, by its command or none
abbrev By : Option Command → State → List Said → State → Type 0
By o s rs u = MatchOption o (Met (24, []) s rs u) (λ command. CommandAnswered command s rs u)

line_counts : (o : Option Command) (s : State) (rs : List Said) (u : State) → By o s rs u → s.drafts.begun ≤ 2
    → Counts (is_done rs && begins_plan o) s u
line_counts None s rs u x few = met_counts (24, []) false s rs u x few
line_counts (Some (Plan line)) s rs u x few =
    chosen s.called (λ m. met_counts (24, []) _ s rs u m few) (λ a. plan_counts line s rs u a few) x
line_counts (Some (Call line)) s rs u x few =
    chosen s.drafts.writing (λ m. met_counts (24, []) _ s rs u m few)
    (λ a. same_counts _ s u (and_false (is_done rs)) (ap (λ (d : Drafting). d.begun) (call_line_drafts line s rs u a)) few) x

-- once the board has been called it stays so, and a line of a plan is met by 24
line_stays : (o : Option Command) (s : State) (rs : List Said) (u : State) → By o s rs u → s.called ≡ true → u.called ≡ true
line_stays None s rs u x e = ap (λ (v : State). v.called) x.1 ∙ e
line_stays (Some (Plan line)) s rs u x e = chosen s.called (λ m. ap (λ (v : State). v.called) m.1 ∙ e) (λ a. ap (λ (v : State). v.called) a.1 ∙ e) x
line_stays (Some (Call line)) s rs u x e =
    chosen s.drafts.writing (λ m. ap (λ (v : State). v.called) m.1 ∙ e)
    (λ a. elim (call_line_called line s rs u a) [ inl n ↦ ap (λ (v : State). v.called) n.1 ∙ e | inr c ↦ c ]) x

plan_met : (o : Option Command) (s : State) (rs : List Said) (u : State) (line : PlanLine) → By o s rs u → s.called ≡ true
    → o ≡ Some (Plan line) → rs ≡ refused (24, []) ∷ []
plan_met o s rs u line x e is =
    let here = subst (λ (o : Option Command). By o s rs u) is x in
    (subst (λ (b : Bool). MatchBool b (Met (24, []) s rs u) (PlanLineAnswered line s rs u)) e here).0

-- a call that is taken has called the board
call_taken : (o : Option Command) (s : State) (rs : List Said) (u : State) (line : CallLine) → By o s rs u
    → o ≡ Some (Call line) → Taken rs → u.called ≡ true
call_taken o s rs u line x is t =
    let here = subst (λ (o : Option Command). By o s rs u) is x in
    chosen s.drafts.writing (λ m. absurd ((not_taken (24, []) rs m.0 t).0 refl))
    (λ a. elim (call_line_called line s rs u a) [ inl n ↦ absurd (n.0 t) | inr c ↦ c ]) here

-- how many replies there are to n ticks
abbrev TickCount : ℕ → List Said → Type 0
TickCount n rs = (length rs ≤ n) × (NoneRefused rs → length rs ≡ n)

ticks_count : (n : ℕ) (s : State) (rs : List Said) (u : State) → TicksAnswered n s rs u → TickCount n rs
ticks_count zero s [] u x = (omega arith, λ _. refl)
ticks_count zero s (said ∷ rs) u x = absurd x
ticks_count (suc n) s [] u x = absurd x
ticks_count (suc n) s (done ∷ rs) u x = absurd x
ticks_count (suc n) s (granted grant ∷ rs) u x =
    let c = ticks_count n _ rs u x.1 in
    (omega (arith, c.0), λ none. ap suc (c.1 (λ k d less. none (suc k) d (omega (arith, less)))))
ticks_count (suc n) s (refused refusal ∷ []) u x = (omega arith, λ none. absurd (none 0 done (omega arith) refusal refl))
ticks_count (suc n) s (refused refusal ∷ more ∷ rs) u x = absurd x

line_ticks : (o : Option Command) (s : State) (rs : List Said) (u : State) (n : ℕ) → By o s rs u
    → o ≡ Some (Call (Tick n)) → Taken rs → TickCount n rs
line_ticks o s rs u n x is t =
    let here = subst (λ (o : Option Command). By o s rs u) is x in
    chosen s.drafts.writing (λ m. absurd ((not_taken (24, []) rs m.0 t).0 refl)) (λ a. ticks_count n (once_called s) rs u a) here

-- the lines of a run, with their answers
module _ (P : AnsweredLine → Type 0) (of_rest : (line : List ℕ) → P (line, refused (24, []) ∷ [])) where
  -- what stands behind the last line
  rest_all : (rest : List ℕ) → All P (zip (rest ∷ []) (rest_answer rest))
  rest_all [] = All-nil P
  rest_all (b ∷ bs) = All-cons P _ [] (of_rest (b ∷ bs)) (All-nil P)

  -- what holds of each line at a state with I, and what keeps I
  each_line : (I : State → Type 0) → ((line : List ℕ) (s : State) (rs : List Said) (u : State) → LineAnswered line s rs u → I s → P (line, rs) × I u)
      → (s : State) (lines : List (List ℕ)) (answers : List (List Said)) → LinesAnswered s lines answers → I s → All P (zip lines answers)
  each_line I step s [] answers x i = All-nil P
  each_line I step s (rest ∷ []) answers x i = subst (λ (answers : List (List Said)). All P (zip (rest ∷ []) answers)) (sym x) (rest_all rest)
  each_line I step s (line ∷ next ∷ more) [] x i = absurd x
  each_line I step s (line ∷ next ∷ more) (rs ∷ answers) x i =
      let here = step line s rs x.0 x.1 i in
      All-cons P (line, rs) (zip (next ∷ more) answers) here.0 (each_line I step x.0 (next ∷ more) answers x.2 here.1)

-- each taken line of ticks has its number of replies
abbrev TickLine : AnsweredLine → Type 0
TickLine x = (n : ℕ) → command_of x.0 ≡ Some (Call (Tick n)) → Taken x.1 → TickCount n x.1

rest_ticks : (line : List ℕ) → TickLine (line, refused (24, []) ∷ [])
rest_ticks line n e t = absurd ((not_taken (24, []) (refused (24, []) ∷ []) refl t).0 refl)

lines_ticks : (s : State) (lines : List (List ℕ)) (answers : List (List Said)) → LinesAnswered s lines answers → TickReplies (zip lines answers)
lines_ticks s lines answers x =
    each_line TickLine rest_ticks (λ _. Unit {0}) (λ line s rs u y i. (λ n e t. line_ticks (command_of line) s rs u n y e t, tt)) s lines answers x tt

-- once the board has been called, each line of a plan is met by 24
abbrev Misplaced : AnsweredLine → Type 0
Misplaced y = IsPlanLine y → y.1 ≡ refused (24, []) ∷ []

lines_misplaced : (s : State) (lines : List (List ℕ)) (answers : List (List Said)) → LinesAnswered s lines answers → s.called ≡ true
    → All Misplaced (zip lines answers)
lines_misplaced s lines answers x e =
    each_line Misplaced (λ line p. refl) (λ s. s.called ≡ true)
    (λ line s rs u y i. (λ p. plan_met (command_of line) s rs u p.0 y i p.1, line_stays (command_of line) s rs u y i)) s lines answers x e

abbrev CallsLast : AnsweredLine → AnsweredLine → Type 0
CallsLast x y = CallTaken x → Misplaced y

no_pair : (x : AnsweredLine) → AllPairs CallsLast (x ∷ [])
no_pair x = AllPairs-cons CallsLast x [] (All-nil (CallsLast x)) (λ i j d less within. absurd (omega (arith, less, within)))

rest_pairs : (rest : List ℕ) → AllPairs CallsLast (zip (rest ∷ []) (rest_answer rest))
rest_pairs [] = λ i j d less within. absurd (omega (arith, less, within))
rest_pairs (b ∷ bs) = no_pair _

lines_calls_last : (s : State) (lines : List (List ℕ)) (answers : List (List Said)) → LinesAnswered s lines answers
    → NoPlansAfterCalls (zip lines answers)
lines_calls_last s [] answers x = λ i j d less within. absurd (omega (arith, less, within))
lines_calls_last s (rest ∷ []) answers x =
    subst (λ (answers : List (List Said)). NoPlansAfterCalls (zip (rest ∷ []) answers)) (sym x) (rest_pairs rest)
lines_calls_last s (line ∷ next ∷ more) [] x = absurd x
lines_calls_last s (line ∷ next ∷ more) (rs ∷ answers) x =
    AllPairs-cons CallsLast (line, rs) (zip (next ∷ more) answers)
    (λ k d less taken.
    lines_misplaced x.0 (next ∷ more) answers x.2 (call_taken (command_of line) s rs x.0 taken.0.0 x.1 taken.0.1 taken.1) k d less)
    (lines_calls_last x.0 (next ∷ more) answers x.2)

-- the plans that have begun, with those that are granted from here on
lines_two_plans : (s : State) (lines : List (List ℕ)) (answers : List (List Said)) → LinesAnswered s lines answers → s.drafts.begun ≤ 2
    → count_by grants_plan (zip lines answers) + s.drafts.begun ≤ 2
lines_two_plans s [] answers x few = omega (arith, few)
lines_two_plans s (rest ∷ []) answers x few =
    subst (λ (answers : List (List Said)). count_by grants_plan (zip (rest ∷ []) answers) + s.drafts.begun ≤ 2) (sym x) (go rest) where
      go : (rest : List ℕ) → count_by grants_plan (zip (rest ∷ []) (rest_answer rest)) + s.drafts.begun ≤ 2
      go [] = omega (arith, few)
      go (b ∷ bs) = omega (arith, few)
lines_two_plans s (line ∷ next ∷ more) [] x few = absurd x
lines_two_plans s (line ∷ next ∷ more) (rs ∷ answers) x few =
    let here = line_counts (command_of line) s rs x.0 x.1 few in
    let rest = lines_two_plans x.0 (next ∷ more) answers x.2 here.within in
    let sum : count_by grants_plan ((line, rs) ∷ zip (next ∷ more) answers) ≡ (cond (grants_plan (line, rs)) 1 0) + count_by grants_plan (zip (next ∷ more) answers) =
    sum_by-cons (λ x. cond (grants_plan x) 1 0) (line, rs) (zip (next ∷ more) answers) in
    rw sum (omega (arith, here.more, rest))

-- a text that is too long
module _ (text : List ℕ) (answers : List (List Said)) (x : Rehearses text answers) where
  by_length : {C : Type 0} → (LinesAnswered first_state (pieces 10 text) answers → C) → (answers ≡ (refused (24, []) ∷ []) ∷ [] → C) → C
  by_length f g = chosen (leb (length text) 16384) f g x

  alone : (P : List AnsweredLine → Type 0) → P [] → ((line : List ℕ) → P ((line, refused (24, []) ∷ []) ∷ []))
      → answers ≡ (refused (24, []) ∷ []) ∷ [] → P (answered_lines text answers)
  alone P none one e = subst (λ (answers : List (List Said)). P (zip (pieces 10 text) answers)) (sym e) (go (pieces 10 text)) where
    go : (lines : List (List ℕ)) → P (zip lines ((refused (24, []) ∷ []) ∷ []))
    go [] = none
    go (line ∷ []) = one line
    go (line ∷ next ∷ more) = one line

  pub two_plans : AtMostTwoPlans (answered_lines text answers)
  two_plans =
      by_length (λ y. let all = lines_two_plans first_state (pieces 10 text) answers y (omega arith) in omega (arith, all))
      (alone AtMostTwoPlans (omega arith) (λ line. omega arith))

  pub calls_last : NoPlansAfterCalls (answered_lines text answers)
  calls_last =
      by_length (lines_calls_last first_state (pieces 10 text) answers)
      (alone NoPlansAfterCalls (λ i j d less within. absurd (omega (arith, less, within))) (λ line. no_pair _))

  pub tick_replies : TickReplies (answered_lines text answers)
  tick_replies =
      by_length (lines_ticks first_state (pieces 10 text) answers)
      (alone TickReplies (All-nil TickLine) (λ line. All-cons TickLine _ [] (rest_ticks line) (All-nil TickLine)))
