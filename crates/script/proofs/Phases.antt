-- What a call meets while plans are written, and how the call that ends that is answered.
use Rattle.std.proofs.Common.{◌≡◌, ℕ, Bool, true, false, if◌then◌else◌, List, [], ◌∷◌, Some, None, Option, refl, ap, ◌∙◌, MatchBool, MatchOption}
use Rattle.std.specs.Prelude.{is_none}
use Rattle.lines.specs.Words.{command_of}
use Rattle.lines.specs.declared.command.CallLine.{CallLine}
use Rattle.lines.specs.declared.command.CallLine.TheVariants.{Start, Tick, Switch, Show, Stop}
use Rattle.lines.specs.declared.command.Command.{Command}
use Rattle.lines.specs.declared.command.Command.TheVariants.{Plan, Call}
use Rattle.readings.specs.Refusals.{Content}
use Rattle.board.specs.Requests.{Request}
use Rattle.script.specs.Boards.{BankPosition}
use Rattle.script.specs.Calls.{CallAnswered, CallLineAnswered, Met, WithPlan}
use Rattle.script.specs.Drafting.{plan_at}
use Rattle.script.specs.Lines.{CommandAnswered, call_refusal, ends_plans, no_plan, plan_refusal}
use Rattle.script.specs.Plans.{Ready}
use Rattle.script.specs.Replies.{Said, refused}
use Rattle.script.specs.States.{State}
use Rattle.script.specs.Texts.{LinesAnswered}

-- what a call meets before the board does
module _ (refusal : Content) (s : State) (rs : List Said) (is : rs ≡ refused refusal ∷ []) where
  met : (other : Content) → Some other ≡ Some refusal → Met other s rs s
  met other e = let same : refusal ≡ other = cc in (is ∙ ap (λ (c : Content). refused c ∷ []) same, refl)

  with_plan_met : (call : Ready → Request BankPosition) (plan : Option Ready)
      → no_plan plan ≡ Some refusal → WithPlan call plan s rs s
  with_plan_met call None e = met (25, []) e
  with_plan_met call (Some plan) e = absurd cc

  plan_met : (line : CallLine) → plan_refusal line s.drafts ≡ Some refusal → CallLineAnswered line s rs s
  plan_met (Start p) e = with_plan_met _ (plan_at p s.drafts) e
  plan_met (Tick n) e = absurd cc
  plan_met (Switch p latency) e = with_plan_met _ (plan_at p s.drafts) e
  plan_met (Show id) e = absurd cc
  plan_met Stop e = absurd cc

  pub call_met : (line : CallLine) → call_refusal line s.drafts ≡ Some refusal → CommandAnswered (Call line) s rs s
  call_met line e = go s.drafts.writing e where
    go : (b : Bool) → (if b then Some (24, []) else plan_refusal line s.drafts) ≡ Some refusal
        → MatchBool b (Met (24, []) s rs s) (CallLineAnswered line s rs s)
    go true e = met (24, []) e
    go false e = plan_met line e

-- a call that the board meets is answered the same, whether or not the board has been called
module _ (a b : Bool) (s : State) (rs : List Said) (u : State) where
  board_called : (call : Request BankPosition) → CallAnswered call (record s { called = a }) rs u → CallAnswered call (record s { called = b }) rs u
  board_called call x =
      record {
        reply = x.reply;
        replies = record { answers = x.replies.answers; ages = x.replies.ages };
        says = x.says;
        state = x.state;
      }

  with_plan_called : (call : Ready → Request BankPosition) (plan : Option Ready)
      → no_plan plan ≡ None
      → WithPlan call plan (record s { called = a }) rs u → WithPlan call plan (record s { called = b }) rs u
  with_plan_called call None e x = absurd cc
  with_plan_called call (Some plan) e x = board_called (call plan) x

  call_line_called : (line : CallLine) → plan_refusal line s.drafts ≡ None
      → CallLineAnswered line (record s { called = a }) rs u → CallLineAnswered line (record s { called = b }) rs u
  call_line_called (Start p) e x = with_plan_called _ (plan_at p s.drafts) e x
  call_line_called (Tick n) e x = x
  call_line_called (Switch p latency) e x = with_plan_called _ (plan_at p s.drafts) e x
  call_line_called (Show id) e x = board_called _ x
  call_line_called Stop e x = board_called _ x

  call_called : (line : CallLine) → call_refusal line s.drafts ≡ None
      → CommandAnswered (Call line) (record s { called = a }) rs u → CommandAnswered (Call line) (record s { called = b }) rs u
  call_called line e x = go s.drafts.writing e x where
    go : (busy : Bool) → (if busy then Some (24, []) else plan_refusal line s.drafts) ≡ None
        → MatchBool busy (Met (24, []) (record s { called = a }) rs u) (CallLineAnswered line (record s { called = a }) rs u)
        → MatchBool busy (Met (24, []) (record s { called = b }) rs u) (CallLineAnswered line (record s { called = b }) rs u)
    go true e x = absurd cc
    go false e x = call_line_called line e x

  ending_called : (o : Option Command) → ends_plans o s.drafts ≡ true
      → MatchOption o (Met (24, []) (record s { called = a }) rs u) (λ command. CommandAnswered command (record s { called = a }) rs u)
      → MatchOption o (Met (24, []) (record s { called = b }) rs u) (λ command. CommandAnswered command (record s { called = b }) rs u)
  ending_called None e x = absurd cc
  ending_called (Some (Plan line)) e x = absurd cc
  ending_called (Some (Call line)) e x = call_called line (none (call_refusal line s.drafts) e) x where
    none : (o : Option Content) → is_none o ≡ true → o ≡ None
    none None e = refl
    none (Some refusal) e = absurd cc

-- and so are the lines from there on
pub lines_called : (a b : Bool) (s : State) (line next : List ℕ) (more : List (List ℕ)) → ends_plans (command_of line) s.drafts ≡ true
    → (answers : List (List Said)) → LinesAnswered (record s { called = a }) (line ∷ next ∷ more) answers
    → LinesAnswered (record s { called = b }) (line ∷ next ∷ more) answers
lines_called a b s line next more e [] x = absurd x
lines_called a b s line next more e (rs ∷ answers) x = (x.0, ending_called a b s rs x.0 (command_of line) e x.1, x.2)
