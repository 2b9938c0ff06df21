-- The strip of a plan script: one plan, `plan`, its readings and `defer`, and nothing behind it.
use Rattle.std.specs.Option.{option_map_or}
use Rattle.std.specs.Prelude.{ℕ, Bool, true, false, if◌then◌else◌, List, [], ◌∷◌, ◌++◌, length, map, nat_le, ok_or, Ok, Err, Result}
use Rattle.readings.specs.Proposals.{kept, list_refusal}
use Rattle.readings.specs.Refusals.{Content}
use Rattle.readings.specs.declared.reading.Proposal.{Proposal}
use Rattle.lines.specs.Pieces.{pieces}
use Rattle.lines.specs.Words.{command_of}
use Rattle.lines.specs.declared.command.Command.{Command}
use Rattle.lines.specs.declared.command.Command.TheVariants.{Plan}
use Rattle.lines.specs.declared.command.PlanLine.TheVariants.{Begin, Reading, Defer}
use Rattle.strip.specs.Strips.{Strip, laid_strip}

-- what stands behind the last byte 10: a line cut short (24), unless nothing stands there, and then
-- the script ends before its plan (25)
abbrev pub rest_refusal : List ℕ → Content
rest_refusal [] = (25, [])
rest_refusal _ = (24, [])

-- the command of a line, with these pieces of the script behind it
abbrev pub command_before : (behind : List (List ℕ)) → (line : List ℕ) → Result Command Content
command_before [] line = Err (rest_refusal line)
command_before _ line = ok_or (command_of line) (24, [])

-- the command of the first of the pieces that are left
abbrev pub next_command : (left : List (List ℕ)) → Result Command Content
next_command [] = Err (25, [])
next_command (line ∷ behind) = command_before behind line

-- a plan that has ended: its readings, how many slots its strip is to have, and the pieces of the
-- script behind it
pub record Ended : Type 0 where
  pub given : List Proposal
  pub slots : ℕ
  pub behind : List (List ℕ)

-- what the command of a line makes of a plan that has begun: one reading more, or its end
abbrev pub by_command : Result Command Content → (one_more : Proposal → Result Ended Content)
    → (end : ℕ → Result Ended Content) → Result Ended Content
by_command (Ok (Plan (Reading id work validity))) one_more end =
    one_more (record { id = id; work = work; validity = validity })
by_command (Ok (Plan (Defer slots))) one_more end = end slots
by_command (Ok _) one_more end = Err (24, [])
by_command (Err refusal) one_more end = Err refusal

-- a plan that has begun, with these readings so far, up to its end
abbrev pub rows_ended : (given : List Proposal) → (left : List (List ℕ)) → Result Ended Content
rows_ended given [] = Err (25, [])
rows_ended given (line ∷ behind) =
    by_command (command_before behind line) (λ p. rows_ended (given ++ p ∷ []) behind)
    (λ n. Ok (record { given = given; slots = n; behind = behind }))

-- a plan begins
abbrev pub begun_by : Result Command Content → (begun : Result Ended Content) → Result Ended Content
begun_by (Ok (Plan Begin)) begun = begun
begun_by (Ok _) begun = Err (24, [])
begun_by (Err refusal) begun = Err refusal

-- a plan from its first line up to its end
abbrev pub plan_ended : (left : List (List ℕ)) → Result Ended Content
plan_ended [] = Err (25, [])
plan_ended (line ∷ behind) = begun_by (command_before behind line) (rows_ended [] behind)

-- the strip of a plan: its list is refused first, then its laying and its closing
abbrev pub plan_strip : (given : List Proposal) → (slots : ℕ) → Result Strip Content
plan_strip given slots =
    option_map_or (λ refusal. Err refusal) (list_refusal given) (laid_strip (map kept given) slots)

-- nothing is left but the end of the script
abbrev pub is_end : (left : List (List ℕ)) → Bool
is_end ([] ∷ []) = true
is_end _ = false

-- a strip behind whose plan these pieces are left
abbrev pub with_end : (left : List (List ℕ)) → Result Strip Content → Result Strip Content
with_end left (Ok s) = if is_end left then Ok s else Err (24, [])
with_end left (Err refusal) = Err refusal

-- the strip of a plan that comes first in a script, where nothing stands behind it
abbrev pub strip_made : Result Ended Content → Result Strip Content
strip_made (Ok plan) = with_end plan.behind (plan_strip plan.given plan.slots)
strip_made (Err refusal) = Err refusal

-- the strip of a script of at most 16,384 bytes, or its first refusal; a longer one is met by 24
abbrev pub scripted : (script : List ℕ) → Result Strip Content
scripted script =
    if nat_le (length script) 16384 then strip_made (plan_ended (pieces 10 script))
    else Err (24, [])
