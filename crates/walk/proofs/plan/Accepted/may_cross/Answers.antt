use Rattle.std.proofs.Common.{Decides, rules}
use Rattle.readings.specs.Lists.{rows_of as readings_of}
use Rattle.books.specs.Held.{rows_of}
use Rattle.walk.specs.Crossings.{MayCross}
use Rattle.walk.specs.Plans.{finishes_of, plan_course}
use Rattle.walk.proofs.Crossing.{exact}
use Rattle.walk.proofs.plan.Accepted.may_cross.Goals as goal

pub returns-then-is_idle-clause-exact : goal.returns-then-is_idle-clause-exact
returns-then-is_idle-clause-exact g c =
    let a = c.args.self.now in
    let test : Decides c.all_in_time.result (MayCross (rows_of c.args.books.now) (readings_of a.list) (finishes_of a)) = search rules in
    exact (rows_of c.args.books.now) (readings_of a.list) (plan_course a) (finishes_of a) a.accepted c.all_in_time.result test
