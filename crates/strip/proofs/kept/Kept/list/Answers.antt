use Rattle.std.proofs.Common.{◌<◌, length, length-set, sym, ◌∙◌, subst, arith}
use Rattle.readings.specs.Ranges.{WellMade, blank}
use Rattle.policy.proofs.Filled.{filled_more}
use Rattle.strip.proofs.Proposed.{given_again, proposed}
use Rattle.strip.proofs.kept.Kept.list.Goals as goal

pub loop-k-preserved : goal.loop-k-preserved
loop-k-preserved c =
    let few = c.rows-rows.ensures.law.few in
    let inside : c.loop-k.k < length c.loop-k.given = omega arith in
    record {
      filled = filled_more proposed c.loop-k.given c.rows-rows.result.now c.loop-k.k blank c.new.result c.loop-k-test.true inside c.loop-k.invariant.filled cc;
      long = length-set c.loop-k.given c.loop-k.k c.new.result ∙ c.loop-k.invariant.long;
    }

pub unwrap-requires : goal.unwrap-requires
unwrap-requires c = c.new-2.ensures.exact.1 (subst WellMade (sym (given_again _ _ _ c.loop-k-test.false c.loop-k.auto.k-end c.loop-k.invariant.filled)) c.rows-rows.ensures.law)

pub returns : goal.returns
returns c =
    let ok = rw c.unwrap.ensures at c.new-2.ensures.ok in
    ok ∙ given_again _ _ _ c.loop-k-test.false c.loop-k.auto.k-end c.loop-k.invariant.filled ∙ c.rows-rows.ensures.value
