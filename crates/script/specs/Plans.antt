-- A plan: a list, and a policy for it.
use Rattle.std.specs.Prelude.{◌+◌, ◌-◌, List, map, Ok, Err, Result, ⊤}
use Rattle.std.specs.Option.{option_map_or}
use Rattle.readings.specs.Lists.{rows_of}
use Rattle.readings.specs.Proposals.{kept, list_refusal}
use Rattle.readings.specs.Refusals.{Content}
use Rattle.readings.specs.declared.reading.Proposal.{Proposal}
use Rattle.readings.specs.declared.reading.Reading.{Reading}
use Rattle.books.specs.Rows.{come_on}
use Rattle.planner.specs.Periods.{half_half, more_less}
use Rattle.planner.specs.declared.timing.Timing.{Timing}
use Rattle.periodic.specs.Positions.{phases_of}
use Rattle.periodic.specs.Phases.{begun}
use Rattle.strip.specs.Held.{loop_start}
use Rattle.strip.specs.Strips.{Strip, laid_strip, start_of}
use Rattle.walk.specs.Walks.{Walks, granted}
use Rattle.script.specs.Boards.{BankPosition, policies}
use Rattle.script.specs.Strips.{empty_strip}
use Rattle.script.specs.declared.plan.Plan.{Plan}
use Rattle.script.specs.declared.plan.Planner.{Planner}
use Rattle.script.specs.declared.plan.Planner.TheVariants.{HalfHalf, MoreLess, Defer}

-- the rows of the list, and where the bank of its policy stands
pub record Ready : Type 0 where
  pub list : List Reading
  pub policy : BankPosition

abbrev pub plan_of : Plan → Ready
plan_of p =
    record { list = rows_of p.list; policy = (phases_of p.periodic, loop_start p.strip, p.used) }

-- a policy by periods; the strip beside it is empty
abbrev pub by_periods : List Reading → Result (List Timing) Content → Result BankPosition Content
by_periods rows (Ok timings) = Ok (map begun timings, start_of (empty_strip rows), 1)
by_periods rows (Err refusal) = Err refusal

-- a strip that is played; the periods beside it are those of Half-Half
abbrev pub by_strip : List Reading → Result Strip Content → Result BankPosition Content
by_strip rows (Ok strip) = Ok (map begun (half_half rows), start_of strip, 2)
by_strip rows (Err refusal) = Err refusal

-- the policy that a planner gives to the rows of a list, or its refusal
abbrev pub policy_by : Planner → List Reading → Result BankPosition Content
policy_by HalfHalf rows = by_periods rows (Ok (half_half rows))
policy_by MoreLess rows = by_periods rows (more_less rows)
policy_by (Defer slots) rows = by_strip rows (laid_strip rows slots)

-- the list with its policy, or the planner's refusal
abbrev pub plan_with : List Reading → Result BankPosition Content → Result Ready Content
plan_with rows (Ok policy) = Ok (record { list = rows; policy = policy })
plan_with rows (Err refusal) = Err refusal

-- the plan of these numbers, or the first refusal: the list's, then the planner's
abbrev pub plan_from : List Proposal → Planner → Result Ready Content
plan_from ps planner =
    let rows = map kept ps in
    option_map_or (λ refusal. Err refusal) (list_refusal ps)
    (plan_with rows (policy_by planner rows))

-- a plan by a strip is granted by the walk of its bank, with the loop of the strip
abbrev pub WalkGranted : Planner → Ready → Type 0
WalkGranted (Defer slots) plan =
    let strip = plan.policy.1 in
    Walks policies plan.policy (map come_on plan.list)
    (granted strip.first (strip.last + 1 - strip.first))
WalkGranted _ plan = ⊤
