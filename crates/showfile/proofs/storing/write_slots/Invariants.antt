-- Blocks of slots are written one by one.
use Rattle.std.proofs.Common.{◌≡◌, ◌+◌, ◌*◌, ◌++◌, length, take}
use Rattle.std.specs.Iterator.Adapters.{enumerate_count, enumerate_source}
use Rattle.std.specs.Slice.Iter.{chunks_rest, chunks_size}
use Rattle.showfile.specs.Spelling.{slot_block_count}
use Rattle.showfile.proofs.SlotsWritten.{joined_from}
use Rattle.showfile.proofs.storing.write_slots.Given as goal

-- the blocks so far, and those of the slots that are left, are the blocks of all
abbrev pub invariant-loop-k : goal.invariant-loop-k
invariant-loop-k l =
    let k = enumerate_count l.k-iterator in
    let left = chunks_rest (enumerate_source l.k-iterator) in
    record {
      can_next : goal.iterator-loop-k.can_next l.k-iterator;
      is_finite : goal.iterator-loop-k.is_finite l.k-iterator;
      size : chunks_size (enumerate_source l.k-iterator) ≡ 504;
      long : 512 * (k + slot_block_count (length left)) ≡ length l.file;
      told : take (512 * k) l.file ++ joined_from (k + 1) left ≡ joined_from 1 l.slots;
    }
