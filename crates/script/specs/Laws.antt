-- Laws of whole scripts: what holds of the lines of any script with their answers.
use Rattle.std.specs.Prelude.{◌≡◌, ◌≢◌, ℕ, ◌≤◌, Bool, true, false, ◌&&◌, List, [], ◌∷◌, length, zip, count_by, All, AllPairs, Some, Option}
use Rattle.lines.specs.Pieces.{pieces}
use Rattle.lines.specs.Words.{command_of}
use Rattle.lines.specs.declared.command.CallLine.{CallLine}
use Rattle.lines.specs.declared.command.CallLine.TheVariants.{Tick}
use Rattle.lines.specs.declared.command.Command.{Command}
use Rattle.lines.specs.declared.command.Command.TheVariants.{Plan, Call}
use Rattle.lines.specs.declared.command.PlanLine.{PlanLine}
use Rattle.lines.specs.declared.command.PlanLine.TheVariants.{Begin}
use Rattle.readings.specs.Refusals.{Content}
use Rattle.script.specs.Replies.{Said, done, refused}

-- a line, and the replies to it
abbrev pub AnsweredLine : Type 0
AnsweredLine = List ℕ × List Said

-- the lines of a text with their answers
abbrev pub answered_lines : List ℕ → List (List Said) → List AnsweredLine
answered_lines text answers = zip (pieces 10 text) answers

abbrev pub begins_plan : Option Command → Bool
begins_plan (Some (Plan Begin)) = true
begins_plan _ = false

abbrev pub is_done : List Said → Bool
is_done (done ∷ []) = true
is_done _ = false

-- whether a line begins a plan, and is granted
abbrev pub grants_plan : AnsweredLine → Bool
grants_plan x = is_done x.1 && begins_plan (command_of x.0)

-- at most two plans begin
abbrev pub AtMostTwoPlans : List AnsweredLine → Type 0
AtMostTwoPlans xs = count_by grants_plan xs ≤ 2

-- met by neither 24 nor 25
abbrev pub Taken : List Said → Type 0
Taken rs = All (λ r. (r ≢ refused (24, [])) × (r ≢ refused (25, []))) rs

-- a call that is taken, be it granted or refused by the board
abbrev pub CallTaken : AnsweredLine → Type 0
CallTaken x = ((call : CallLine) × (command_of x.0 ≡ Some (Call call))) × Taken x.1

abbrev pub IsPlanLine : AnsweredLine → Type 0
IsPlanLine x = (line : PlanLine) × (command_of x.0 ≡ Some (Plan line))

-- once a call is taken, every line of a plan is met by 24
abbrev pub NoPlansAfterCalls : List AnsweredLine → Type 0
NoPlansAfterCalls xs =
    AllPairs (λ x y. CallTaken x → IsPlanLine y → y.1 ≡ refused (24, []) ∷ []) xs

abbrev pub NoneRefused : List Said → Type 0
NoneRefused rs = All (λ r. (refusal : Content) → r ≢ refused refusal) rs

-- n ticks that are taken have at most n replies, and n where none of them is refused
abbrev pub TickReplies : List AnsweredLine → Type 0
TickReplies xs =
    All (λ x. (n : ℕ) → command_of x.0 ≡ Some (Call (Tick n)) → Taken x.1
    → (length x.1 ≤ n) × (NoneRefused x.1 → length x.1 ≡ n)) xs
