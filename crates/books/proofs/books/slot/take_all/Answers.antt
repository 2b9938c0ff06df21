use Rattle.std.proofs.Common.{length, sym, ap, subst, arith}
use Rattle.policy.specs.Course.{Answer}
use Rattle.books.specs.Parts.{Young}
use Rattle.books.specs.Slots.{worked}
use Rattle.books.proofs.Each.{length_each}
use Rattle.books.proofs.Takes.{after_is, shown_is, worked_is, worked_young}
use Rattle.books.proofs.books.slot.take_all.Goals as goal

pub pass_all-requires : goal.pass_all-requires
pass_all-requires c =
    let a : Answer = (c.args.samples, c.args.run) in
    let rs = c.args.rows.now in
    let w = worked_is a rs c.open_all.new.rows c.run_one.new.rows c.open_all.ensures c.run_one.ensures in
    record {
      few = omega (arith, ap length w, length_each (worked a) 0 rs, c.requires.few);
      young = subst Young (sym w) (worked_young a rs c.requires.young);
    }

pub returns : goal.returns
returns c =
    let a : Answer = (c.args.samples, c.args.run) in
    let rs = c.args.rows.now in
    let w = worked_is a rs c.open_all.new.rows c.run_one.new.rows c.open_all.ensures c.run_one.ensures in
    record {
      shown = shown_is a rs c.run_one.new.rows c.pass_all.result w c.pass_all.ensures.shown;
      after = after_is a rs c.run_one.new.rows c.pass_all.new.rows w c.pass_all.ensures.after;
    }
