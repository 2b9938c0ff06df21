use Rattle.strip.proofs.ClosedLaid.{is_schedule, loop_closed, one_schedule, walk_grants}
use Rattle.strip.proofs.laying.LayingStrip.close.Goals as goal

pub of-requires : goal.of-requires
of-requires c =
    let laid = c.args.self.law _ c.unwrap-list.ensures in
    let found = rw c.unwrap-list.ensures at c.in-Some.ensures.found in
    loop_closed _ _ _ _ laid _ _ found

pub returns-clause-schedule : goal.returns-clause-schedule
returns-clause-schedule c =
    let laid = c.args.self.law _ c.unwrap-list.ensures in
    let found = rw c.unwrap-list.ensures at c.in-Some.ensures.found in
    let is = c.of.ensures in
    rw (is.list, is.slots, is.first, is.last) (is_schedule _ _ _ _ laid _ _ found)

pub returns-clause-only : goal.returns-clause-only
returns-clause-only c =
    let laid = c.args.self.law _ c.unwrap-list.ensures in
    let found = rw c.unwrap-list.ensures at c.in-Some.ensures.found in
    let is = c.of.ensures in
    rw (is.list, is.slots, is.first, is.last) (one_schedule _ _ _ _ laid _ _ found)

pub returns-clause-walks : goal.returns-clause-walks
returns-clause-walks c =
    let laid = c.args.self.law _ c.unwrap-list.ensures in
    let found = rw c.unwrap-list.ensures at c.in-Some.ensures.found in
    let is = c.of.ensures in
    rw (is.list, is.slots, is.first, is.last) (walk_grants _ _ _ _ laid _ _ found)
