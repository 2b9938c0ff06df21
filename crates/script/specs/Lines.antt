-- What a line is answered with: a list of replies, and the state after it.
use Rattle.std.specs.Prelude.{◌≡◌, ℕ, Bool, false, if◌then◌else◌, List, [], ◌∷◌, Some, None, Option, is_none, MatchBool, MatchOption}
use Rattle.lines.specs.Words.{command_of}
use Rattle.lines.specs.declared.command.CallLine.{CallLine}
use Rattle.lines.specs.declared.command.CallLine.TheVariants.{Start, Switch}
use Rattle.lines.specs.declared.command.Command.{Command}
use Rattle.lines.specs.declared.command.Command.TheVariants.{Plan, Call}
use Rattle.lines.specs.declared.command.PlanLine.{PlanLine}
use Rattle.readings.specs.Refusals.{Content}
use Rattle.script.specs.Calls.{CallLineAnswered, Met}
use Rattle.script.specs.Drafting.{Drafting, line_drafted, plan_at}
use Rattle.script.specs.Plans.{Ready}
use Rattle.script.specs.Replies.{Said, plan_said}
use Rattle.script.specs.States.{State}

-- the line of a plan, where the board has not been called
abbrev pub PlanLineAnswered : PlanLine → State → List Said → State → Type 0
PlanLineAnswered line s rs u =
    let d = line_drafted line s.drafts in
    (rs ≡ plan_said d.0 ∷ []) × (u ≡ record s { drafts = d.1 })

-- a line of a plan is out of place once the board has been called, and a call while a plan is
-- being written
abbrev pub CommandAnswered : Command → State → List Said → State → Type 0
CommandAnswered (Plan line) s rs u =
    MatchBool s.called (Met (24, []) s rs u) (PlanLineAnswered line s rs u)
CommandAnswered (Call line) s rs u =
    MatchBool s.drafts.writing (Met (24, []) s rs u) (CallLineAnswered line s rs u)

-- a line, given without the byte that ends it; a malformed one is met by 24
abbrev pub LineAnswered : List ℕ → State → List Said → State → Type 0
LineAnswered line s rs u =
    MatchOption (command_of line) (Met (24, []) s rs u) (λ command. CommandAnswered command s rs u)

-- 25, unless a plan is there and ready
abbrev pub no_plan : Option Ready → Option Content
no_plan None = Some (25, [])
no_plan (Some plan) = None

-- what meets a call that names a plan, before the board does
abbrev pub plan_refusal : CallLine → Drafting → Option Content
plan_refusal (Start p) d = no_plan (plan_at p d)
plan_refusal (Switch p latency) d = no_plan (plan_at p d)
plan_refusal _ d = None

-- what meets a call before the board does: 24 while a plan is being written, or else 25
abbrev pub call_refusal : CallLine → Drafting → Option Content
call_refusal line d = if d.writing then Some (24, []) else plan_refusal line d

-- whether a line ends the writing of plans: a call that is met by neither
abbrev pub ends_plans : Option Command → Drafting → Bool
ends_plans (Some (Call line)) d = is_none (call_refusal line d)
ends_plans _ d = false
