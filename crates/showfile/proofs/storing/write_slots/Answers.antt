-- One chunk more is written as a block; what is left of the slots is that of the iterator.
use Rattle.std.proofs.Common.{◌≡◌, ◌*◌, ◌≤◌, min, length, ap, ◌∙◌, arith, rules}
use Rattle.std.specs.Iterator.Adapters.{enumerate_count, enumerate_source}
use Rattle.std.specs.Slice.Iter.{chunks_rest}
use Rattle.showfile.proofs.SlotsWritten.{IsFront, block_written, count_more}
use Rattle.showfile.proofs.storing.write_slots.Goals as goal

pub loop-k-preserved : goal.loop-k-preserved
loop-k-preserved c =
    let so_far = c.loop-k.invariant in
    let step = c.in-Some.ensures.steps in
    let k = enumerate_count c.loop-k.k-iterator in
    let part = c.in-Some.part.now in
    let written = c.write_block.new.block in
    let left = chunks_rest (enumerate_source c.loop-k.k-iterator) in
    let rest = chunks_rest (enumerate_source c.next.new.self) in
    let size = step.0.1.1 ∙ ap (λ n. min n (length left)) so_far.size in
    let front : IsFront left part rest = record { parts = step.0.1.0; size = size; some = step.0.1.2 } in
    let count = count_more left part rest front in
    let inside : 512 * k ≤ length c.loop-k.file = omega arith in
    let long : length written ≡ 512 = omega arith in
    record {
      can_next = search rules;
      is_finite = tt;
      size = step.0.0 ∙ so_far.size;
      long = omega arith;
      told = block_written k c.in-Some.k _ _ left part rest c.loop-k.file written _
          step.1 step.2 front inside long c.write_block.ensures so_far.told;
    }
