use Rattle.std.proofs.Common.{◌≤◌, length, arith}
use Rattle.std.proofs.lemmas.List.{length-take-le}
use Rattle.strip.specs.Held.{slots_of}
use Rattle.showtext.proofs.made.Stored.new.Goals as goal

pub returns-clause-read_back : goal.returns-clause-read_back
returns-clause-read_back c =
    let strip = c.args.strip.now in
    let same = length-take-le strip.count strip.memory.now strip.law.room in
    let few : length (slots_of strip) ≤ 32767 = omega (arith, strip.law.few) in
    rw (rw c.unwrap.ensures at c.store.ensures.ok) at (rw c.unwrap.ensures at c.store.ensures.read_back) 32767 few
