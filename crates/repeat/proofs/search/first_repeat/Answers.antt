use Rattle.std.proofs.Common.{Ok}
use Rattle.repeat.proofs.Ever.{ever_faultless}
use Rattle.repeat.proofs.Marks.{largest}
use Rattle.repeat.proofs.UnderWay.{repeat_found}
use Rattle.repeat.proofs.Unique.{only}
use Rattle.repeat.specs.SearchStep.{states_of}
use Rattle.repeat.proofs.search.first_repeat.Goals as goal

pub returns-in-Some : goal.returns-in-Some
returns-in-Some g c =
    let m = g.S.Stepper in
    let s = m.state c.args.start.now in
    let limit = c.args.limit in
    let loop = c.loop-slot in
    let end = c.in-Some.repeat in
    let ends = rw c.in-Some.is at c.in_ok-repeat.ensures.ends in
    let found = repeat_found m.meaning s loop.slot (states_of m.state loop.search) loop.invariant limit end c.loop-slot-test.true ends in
    record {
      found = found;
      only = λ x f. only m.meaning s limit x (Ok end) f found;
      faultless = λ lasts. ever_faultless m.meaning s limit lasts end.mark end.instant found;
      marks = largest;
    }
