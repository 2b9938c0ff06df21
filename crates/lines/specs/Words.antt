-- What a line says: its pieces, with one space between them, and the command that they make.
use Rattle.std.specs.Prelude.{ℕ, if◌then◌else◌, List, [], ◌∷◌, length, Some, None, codes, Option, nat_le, option_and_then, option_map}
use Rattle.std.specs.Option.{option_or}
use Rattle.std.specs.Str.{bytes_eq}
use Rattle.lines.specs.declared.command.CallLine.{CallLine}
use Rattle.lines.specs.declared.command.CallLine.TheVariants.{Start, Tick, Switch, Show, Stop}
use Rattle.lines.specs.declared.command.Command.{Command}
use Rattle.lines.specs.declared.command.Command.TheVariants.{Plan, Call}
use Rattle.lines.specs.declared.command.PlanLine.{PlanLine}
use Rattle.lines.specs.declared.command.PlanLine.TheVariants.{Begin, Reading, HalfHalf, MoreLess, Defer}
use Rattle.lines.specs.Numeral.{numeral}
use Rattle.lines.specs.Pieces.{pieces}

-- a line with no piece left behind it
abbrev pub line_alone : {L : Type 0} → L → List (List ℕ) → Option L
line_alone line [] = Some line
line_alone line _ = None

-- a line made of the one number that is left
abbrev pub line_of_one : {L : Type 0} → (ℕ → L) → List (List ℕ) → Option L
line_of_one make [] = None
line_of_one make (w ∷ ws) = option_and_then (λ n. line_alone (make n) ws) (numeral w)

-- a line made of the two numbers that are left
abbrev pub line_of_two : {L : Type 0} → (ℕ → ℕ → L) → List (List ℕ) → Option L
line_of_two make [] = None
line_of_two make (w ∷ ws) = option_and_then (λ n. line_of_one (make n) ws) (numeral w)

-- a line made of the three numbers that are left
abbrev pub line_of_three : {L : Type 0} → (ℕ → ℕ → ℕ → L) → List (List ℕ) → Option L
line_of_three make [] = None
line_of_three make (w ∷ ws) = option_and_then (λ n. line_of_two (make n) ws) (numeral w)

-- the line of a plan that a word and the pieces behind it make
abbrev pub plan_line : List ℕ → List (List ℕ) → Option PlanLine
plan_line word behind =
    if bytes_eq word (codes "plan") then line_alone Begin behind
    else if bytes_eq word (codes "reading") then line_of_three Reading behind
    else if bytes_eq word (codes "half") then line_alone HalfHalf behind
    else if bytes_eq word (codes "more") then line_alone MoreLess behind
    else if bytes_eq word (codes "defer") then line_of_one Defer behind
    else None

-- the call of the board that a word and the pieces behind it make
abbrev pub call_line : List ℕ → List (List ℕ) → Option CallLine
call_line word behind =
    if bytes_eq word (codes "start") then line_of_one Start behind
    else if bytes_eq word (codes "tick") then line_of_one Tick behind
    else if bytes_eq word (codes "switch") then line_of_two Switch behind
    else if bytes_eq word (codes "show") then line_of_one Show behind
    else if bytes_eq word (codes "stop") then line_alone Stop behind
    else None

-- the command that pieces make, the first of them its word
abbrev pub command_of_pieces : List (List ℕ) → Option Command
command_of_pieces [] = None
command_of_pieces (word ∷ behind) =
    option_or (option_map Plan (plan_line word behind)) (option_map Call (call_line word behind))

-- the command of a line, given without the byte that ends it; none where it is malformed or has
-- more than 80 bytes
abbrev pub command_of : List ℕ → Option Command
command_of line =
    if nat_le (length line) 80 then command_of_pieces (pieces 32 line) else None
