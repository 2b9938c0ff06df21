-- A state allows one answer to each line.
use Rattle.std.proofs.Common.{◌≡◌, ℕ, zero, suc, Bool, true, false, List, [], ◌∷◌, Some, None, Option, Ok, Err, MatchBool, MatchOption, sym, refl, ap, ◌∙◌, subst}
use Rattle.lines.specs.Words.{command_of}
use Rattle.lines.specs.declared.command.CallLine.{CallLine}
use Rattle.lines.specs.declared.command.CallLine.TheVariants.{Start, Tick, Switch, Show, Stop}
use Rattle.lines.specs.declared.command.Command.{Command}
use Rattle.lines.specs.declared.command.Command.TheVariants.{Plan, Call}
use Rattle.readings.specs.Refusals.{Content}
use Rattle.board.specs.Log.{Reply}
use Rattle.board.specs.Requests.{Request, start, switch, show, stop}
use Rattle.board.specs.Requests as request
use Rattle.board.proofs.Only.{answers_one}
use Rattle.board.specs.declared.call.Grant.{Grant}
use Rattle.script.specs.Boards.{BankPosition, policies}
use Rattle.script.specs.Calls.{CallAnswered, CallLineAnswered, Met, Replies, TicksAnswered, WithPlan}
use Rattle.script.specs.Drafting.{plan_at}
use Rattle.script.specs.Lines.{CommandAnswered, LineAnswered}
use Rattle.script.specs.Plans.{Ready}
use Rattle.script.specs.Replies.{Said, granted, refused, done, board_said}
use Rattle.script.specs.States.{State, once_called, state_after}

pub reply_one : (call : Request BankPosition) (s : State) (a b : Reply) → Replies call s a → Replies call s b → a ≡ b
reply_one call s a b x y = answers_one policies s.log call a b x.answers y.answers

-- replies and state are those
abbrev pub Same : (rs all : List Said) (u v : State) → Type 0
Same rs all u v = (all ≡ rs) × (v ≡ u)

call_one : (call : Request BankPosition) (s : State) (rs all : List Said) (u v : State)
    → CallAnswered call s rs u → CallAnswered call s all v → Same rs all u v
call_one call s rs all u v x y =
    let e = reply_one call s y.reply x.reply y.replies x.replies in (
      y.says ∙ ap (λ (a : Reply). board_said a ∷ []) e ∙ sym x.says,
      y.state ∙ ap (λ (a : Reply). state_after call a s) e ∙ sym x.state,
    )

-- a granted tick, and those behind it
pub granted_one : (n : ℕ) (s : State) (grant : Grant) → Replies request.tick s (Ok grant)
    → (all : List Said) (v : State) → TicksAnswered (suc n) s all v
    → (rest : List Said) × (all ≡ granted grant ∷ rest) × TicksAnswered n (state_after request.tick (Ok grant) s) rest v
granted_one n s grant x [] v y = absurd y
granted_one n s grant x (done ∷ rest) v y = absurd y
granted_one n s grant x (granted other ∷ rest) v y =
    let e = reply_one request.tick s (Ok other) (Ok grant) y.0 x in
    let same : other ≡ grant = cc in (
      rest,
      ap (λ (g : Grant). granted g ∷ rest) same,
      subst (λ (g : Grant). TicksAnswered n (state_after request.tick (Ok g) s) rest v) same y.1,
    )
granted_one n s grant x (refused refusal ∷ []) v y =
    let e = reply_one request.tick s (Err refusal) (Ok grant) y.0 x in absurd cc
granted_one n s grant x (refused refusal ∷ more ∷ rest) v y = absurd y

-- a refused tick
refused_one : (n : ℕ) (s : State) (refusal : Content) → Replies request.tick s (Err refusal)
    → (all : List Said) (v : State) → TicksAnswered (suc n) s all v
    → Same (refused refusal ∷ []) all (state_after request.tick (Err refusal) s) v
refused_one n s refusal x [] v y = absurd y
refused_one n s refusal x (done ∷ rest) v y = absurd y
refused_one n s refusal x (granted other ∷ rest) v y =
    let e = reply_one request.tick s (Ok other) (Err refusal) y.0 x in absurd cc
refused_one n s refusal x (refused other ∷ []) v y =
    let e = reply_one request.tick s (Err other) (Err refusal) y.0 x in
    let same : other ≡ refusal = cc in
    (ap (λ (t : Content). refused t ∷ []) same, y.1 ∙ ap (λ (t : Content). state_after request.tick (Err t) s) same)
refused_one n s refusal x (refused other ∷ more ∷ rest) v y = absurd y

pub ticks_one : (n : ℕ) (s : State) (rs all : List Said) (u v : State)
    → TicksAnswered n s rs u → TicksAnswered n s all v → Same rs all u v
ticks_one zero s [] [] u v x y = (refl, y ∙ sym x)
ticks_one zero s [] (more ∷ all) u v x y = absurd y
ticks_one zero s (said ∷ rs) all u v x y = absurd x
ticks_one (suc n) s [] all u v x y = absurd x
ticks_one (suc n) s (done ∷ rs) all u v x y = absurd x
ticks_one (suc n) s (granted grant ∷ rs) all u v x y =
    let one = granted_one n s grant x.0 all v y in
    let same = ticks_one n (state_after request.tick (Ok grant) s) rs one.0 u v x.1 one.2 in
    (one.1 ∙ ap (λ (rest : List Said). granted grant ∷ rest) same.0, same.1)
ticks_one (suc n) s (refused refusal ∷ []) all u v x y =
    let same = refused_one n s refusal x.0 all v y in
    (same.0, same.1 ∙ sym x.1)
ticks_one (suc n) s (refused refusal ∷ more ∷ rs) all u v x y = absurd x

met_one : (refusal : Content) (s : State) (rs all : List Said) (u v : State)
    → Met refusal s rs u → Met refusal s all v → Same rs all u v
met_one refusal s rs all u v x y = (y.0 ∙ sym x.0, y.1 ∙ sym x.1)

with_plan_one : (call : Ready → Request BankPosition) (plan : Option Ready) (s : State) (rs all : List Said) (u v : State)
    → WithPlan call plan s rs u → WithPlan call plan s all v → Same rs all u v
with_plan_one call None s rs all u v x y = met_one (25, []) s rs all u v x y
with_plan_one call (Some plan) s rs all u v x y = call_one (call plan) s rs all u v x y

call_line_one : (line : CallLine) (s : State) (rs all : List Said) (u v : State)
    → CallLineAnswered line s rs u → CallLineAnswered line s all v → Same rs all u v
call_line_one (Start p) s rs all u v x y =
    with_plan_one (λ plan. start plan.list plan.policy) (plan_at p s.drafts) s rs all u v x y
call_line_one (Tick n) s rs all u v x y = ticks_one n (once_called s) rs all u v x y
call_line_one (Switch p latency) s rs all u v x y =
    with_plan_one (λ plan. switch plan.list plan.policy latency) (plan_at p s.drafts) s rs all u v x y
call_line_one (Show id) s rs all u v x y = call_one (show id) s rs all u v x y
call_line_one Stop s rs all u v x y = call_one stop s rs all u v x y

-- where each of two answers is the only one of its kind, so is what a test chooses of them
chosen_one : (test : Bool) {A B A' B' C : Type 0} → (A → A' → C) → (B → B' → C)
    → MatchBool test A B → MatchBool test A' B' → C
chosen_one true f g x y = f x y
chosen_one false f g x y = g x y

pub command_one : (command : Command) (s : State) (rs all : List Said) (u v : State)
    → CommandAnswered command s rs u → CommandAnswered command s all v → Same rs all u v
command_one (Plan line) s rs all u v x y =
    chosen_one s.called (met_one (24, []) s rs all u v) (λ a b. (b.0 ∙ sym a.0, b.1 ∙ sym a.1)) x y
command_one (Call line) s rs all u v x y =
    chosen_one s.drafts.writing (met_one (24, []) s rs all u v) (call_line_one line s rs all u v) x y

pub line_one : (line : List ℕ) (s : State) (rs all : List Said) (u v : State)
    → LineAnswered line s rs u → LineAnswered line s all v → Same rs all u v
line_one line s rs all u v x y = go (command_of line) x y where
  go : (o : Option Command) → MatchOption o (Met (24, []) s rs u) (λ command. CommandAnswered command s rs u)
      → MatchOption o (Met (24, []) s all v) (λ command. CommandAnswered command s all v) → Same rs all u v
  go None a b = met_one (24, []) s rs all u v a b
  go (Some command) a b = command_one command s rs all u v a b
