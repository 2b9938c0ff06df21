-- The head and the blocks of slots make the spelling, which is read again.
use Rattle.std.proofs.Common.{◌≡◌, ℕ, ◌++◌, List, length, ap, ap₂, ◌∙◌, arith}
use Rattle.strip.specs.Strips.{strip_of}
use Rattle.showfile.specs.Blocks.{block}
use Rattle.showfile.specs.Reading.{reading}
use Rattle.showfile.specs.Spelling.{slot_block_count, spelling}
use Rattle.showfile.proofs.Again.{reads_back}
use Rattle.showfile.proofs.Blocks.{length_spelling}
use Rattle.showfile.proofs.SlotsWritten.{joined_from}
use Rattle.showfile.proofs.storing.store.Goals as goal

pub write_slots-requires-clause-whole : goal.write_slots-requires-clause-whole
write_slots-requires-clause-whole c =
    let same = ap (λ (slots : List ℕ). slot_block_count (length slots)) c.slots.ensures in
    omega (arith, length_spelling (strip_of c.args.strip.now) c.head_body.ensures.law.list.few)

pub returns-clause-read_back : goal.returns-clause-read_back
returns-clause-read_back c = λ room fits.
    let s = strip_of c.args.strip.now in
    let first = c.write_block.ensures ∙ ap (block 84 0) c.head_body.ensures.body in
    let others = c.write_slots.ensures ∙ ap (joined_from 1) c.slots.ensures in
    let written : c.write_block.new.block ++ c.write_slots.new.file ≡ spelling s = ap₂ ◌++◌ first others in
    ap (λ file. reading file room) written ∙ reads_back s room c.head_body.ensures.law fits
