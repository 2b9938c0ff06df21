-- What the lines of plans do: how each is answered, and what is then written of the plans.
use Rattle.std.specs.Prelude.{ℕ, ◌+◌, Bool, true, false, if◌then◌else◌, ◌||◌, List, [], ◌∷◌, ◌++◌, Some, None, Ok, Err, Option, Result, ◌==◌, nat_le}
use Rattle.readings.specs.Refusals.{Content}
use Rattle.readings.specs.declared.reading.Proposal.{Proposal}
use Rattle.lines.specs.declared.command.PlanLine.{PlanLine}
use Rattle.lines.specs.declared.command.PlanLine.TheVariants as line
use Rattle.script.specs.Plans.{Ready, plan_from}
use Rattle.script.specs.declared.plan.Planner.{Planner}
use Rattle.script.specs.declared.plan.Planner.TheVariants.{HalfHalf, MoreLess, Defer}

-- what has been written of the plans between two lines
pub record Drafting : Type 0 where
  -- how many plans have begun, at most two
  pub begun : ℕ
  -- the last of them has not ended
  pub writing : Bool
  -- its readings so far
  pub proposed : List Proposal
  -- the plans that are ready
  pub first : Option Ready
  pub second : Option Ready

-- no plan has begun
abbrev pub no_plans : Drafting
no_plans = record { begun = 0; writing = false; proposed = []; first = None; second = None }

-- the refusal of a line of a plan, or none, and what is then written
abbrev pub Drafted : Type 0
Drafted = Option Content × Drafting

-- a line that is out of place is met by 24, and changes nothing
abbrev pub nothing_drafted : Drafting → Drafted
nothing_drafted d = (Some (24, []), d)

-- a plan begins, unless one is being written or two have begun
abbrev pub plan_begun : Drafting → Drafted
plan_begun d =
    if d.writing || nat_le 2 d.begun then nothing_drafted d
    else (None, record d { begun = d.begun + 1; writing = true; proposed = [] })

-- one reading more in the plan that is being written
abbrev pub reading_added : Proposal → Drafting → Drafted
reading_added p d =
    if d.writing then (None, record d { proposed = d.proposed ++ p ∷ [] }) else nothing_drafted d

-- no plan is being written
abbrev pub with_none_open : Drafting → Drafting
with_none_open d = record d { writing = false; proposed = [] }

-- the plan that began last is ready
abbrev pub with_ready : Ready → Drafting → Drafting
with_ready plan d =
    if d.begun == 1 then record d { first = Some plan } else record d { second = Some plan }

-- a plan has ended: ready where it was made, and not ready where it was refused
abbrev pub end_of : Result Ready Content → Drafting → Drafted
end_of (Ok plan) d = (None, with_ready plan d)
end_of (Err refusal) d = (Some refusal, d)

-- the plan that is being written ends
abbrev pub plan_ended : Planner → Drafting → Drafted
plan_ended planner d =
    if d.writing then end_of (plan_from d.proposed planner) (with_none_open d)
    else nothing_drafted d

-- what a line of a plan does, where the board has not been called
abbrev pub line_drafted : PlanLine → Drafting → Drafted
line_drafted line.Begin d = plan_begun d
line_drafted (line.Reading id work validity) d =
    reading_added (record { id = id; work = work; validity = validity }) d
line_drafted line.HalfHalf d = plan_ended HalfHalf d
line_drafted line.MoreLess d = plan_ended MoreLess d
line_drafted (line.Defer slots) d = plan_ended (Defer slots) d

-- the plan of a number, if it is there and ready
abbrev pub plan_at : ℕ → Drafting → Option Ready
plan_at p d = if p == 1 then d.first else if p == 2 then d.second else None
