use Rattle.std.proofs.Common.{◌≡◌, ℕ, ◌+◌, ◌≤◌, List, [], ◌∷◌, ◌++◌, length, get_or, drop, Some, sym, ap, ◌∙◌, arith}
use Rattle.std.proofs.lemmas.List.{length_push, take_all}
use Rattle.readings.specs.Lists.{rows_of as readings_of}
use Rattle.readings.specs.Ranges.{blank as no_reading}
use Rattle.rows.specs.Held.{rows_of}
use Rattle.planner.specs.Periods.{more_less_below}
use Rattle.planner.specs.Response.{response_time}
use Rattle.planner.specs.declared.timing.Timing.{Timing}
use Rattle.planner.proofs.Planned.{below_more, planned}
use Rattle.std.proofs.lemmas.List.Elements.{All-push}
use Rattle.planner.proofs.Settling.{response_is}
use Rattle.planner.proofs.timings.Timings.more_less.Goals as goal

pub returns-in_err-response-clause-law : goal.returns-in_err-response-clause-law
returns-in_err-response-clause-law c = planned (readings_of c.args.list.now)

pub returns-clause-law : goal.returns-clause-law
returns-clause-law c = planned (readings_of c.args.list.now)

pub more_less-requires : goal.more_less-requires
more_less-requires c =
    let it = get_or c.rows-reading-items.result.now c.loop-k.k no_reading in
    let above = rows_of c.loop-k.rows in
    let found : response_time above it.work it.validity ≡ Some c.in_ok-response.response = grind arith in
    let d = response_is above it.work it.validity c.in_ok-response.response found in
    omega (arith, d.half)

pub loop-k-preserved : goal.loop-k-preserved
loop-k-preserved c =
    let given = c.rows-reading-items.result.now in
    let k = c.loop-k.k in
    let it = get_or given k no_reading in
    let above = rows_of c.loop-k.rows in
    let new = c.more_less.result in
    let at : response_time above it.work it.validity ≡ Some c.in_ok-response.response = grind arith in
    let v = c.rows-reading-items.ensures.law.validities k no_reading c.loop-k-test.true in
    let half = (response_is above it.work it.validity c.in_ok-response.response at).half in
    let room : length (above ++ new ∷ []) ≤ 16 = omega (arith, length_push above new, c.loop-k.invariant.count, c.rows-reading-items.ensures.law.few) in
    let pushed : rows_of c.push.new.self ≡ above ++ new ∷ [] = c.push.ensures.rows ∙ take_all 16 (above ++ new ∷ []) room in
    record {
      items = c.loop-k.invariant.items;
      below = ap (λ (ts : List Timing). more_less_below ts (drop (k + 1) given)) (pushed ∙ ap (λ (t : Timing). above ++ t ∷ []) c.more_less.ensures) ∙ sym (below_more above given k c.in_ok-response.response c.loop-k-test.true at) ∙ c.loop-k.invariant.below;
      count = ap length pushed ∙ length_push above new ∙ ap (λ (n : ℕ). n + 1) c.loop-k.invariant.count;
      positive = rw pushed (All-push (λ (t : Timing). 1 ≤ t.period) above new c.loop-k.invariant.positive (rw c.more_less.ensures (omega arith)));
    }
