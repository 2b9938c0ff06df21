-- How the calls of the board are answered.
use Rattle.std.specs.Prelude.{◌≡◌, ℕ, zero, suc, List, [], ◌∷◌, Some, None, Option, Ok, Err}
use Rattle.readings.specs.Refusals.{Content}
use Rattle.lines.specs.declared.command.CallLine.{CallLine}
use Rattle.lines.specs.declared.command.CallLine.TheVariants.{Start, Tick, Switch, Show, Stop}
use Rattle.board.specs.Ages.{Means}
use Rattle.board.specs.Answers.{Answers}
use Rattle.board.specs.Log.{Reply}
use Rattle.board.specs.Requests.{Request, start, switch, show, stop}
use Rattle.board.specs.Requests as request
use Rattle.script.specs.Boards.{BankPosition, policies}
use Rattle.script.specs.Drafting.{plan_at}
use Rattle.script.specs.Plans.{Ready}
use Rattle.script.specs.Replies.{Said, granted, refused, board_said}
use Rattle.script.specs.States.{State, once_called, state_after}

-- the board replies as the log would, and an age that it shows means what the history says
pub record Replies (call : Request BankPosition) (s : State) (a : Reply) : Type 0 where
  pub answers : Answers policies s.log call a
  pub ages : Means call s.history a

-- one call of the board
pub record CallAnswered (call : Request BankPosition) (s : State) (rs : List Said) (u : State)
    : Type 0 where
  pub reply : Reply
  pub replies : Replies call s reply
  pub says : rs ≡ board_said reply ∷ []
  pub state : u ≡ state_after call reply s

-- so many ticks, a reply each; a refused one is the last
abbrev pub TicksAnswered : ℕ → State → List Said → State → Type 0
TicksAnswered zero s [] u = u ≡ s
TicksAnswered (suc n) s (granted grant ∷ rs) u =
    Replies request.tick s (Ok grant) × TicksAnswered n (state_after request.tick (Ok grant) s) rs u
TicksAnswered (suc n) s (refused refusal ∷ []) u =
    Replies request.tick s (Err refusal) × (u ≡ state_after request.tick (Err refusal) s)
TicksAnswered _ s _ u = ⊥

-- a line that is met by this refusal changes nothing
abbrev pub Met : Content → State → List Said → State → Type 0
Met refusal s rs u = (rs ≡ refused refusal ∷ []) × (u ≡ s)

-- a call with a plan, met by 25 where there is none
abbrev pub WithPlan : (Ready → Request BankPosition) → Option Ready
    → State → List Said → State → Type 0
WithPlan call None s rs u = Met (25, []) s rs u
WithPlan call (Some plan) s rs u = CallAnswered (call plan) s rs u

-- a line that calls the board, where no plan is being written
abbrev pub CallLineAnswered : CallLine → State → List Said → State → Type 0
CallLineAnswered (Start p) s rs u =
    WithPlan (λ plan. start plan.list plan.policy) (plan_at p s.drafts) s rs u
CallLineAnswered (Tick n) s rs u = TicksAnswered n (once_called s) rs u
CallLineAnswered (Switch p latency) s rs u =
    WithPlan (λ plan. switch plan.list plan.policy latency)
    (plan_at p s.drafts) s rs u
CallLineAnswered (Show id) s rs u = CallAnswered (show id) s rs u
CallLineAnswered Stop s rs u = CallAnswered stop s rs u
