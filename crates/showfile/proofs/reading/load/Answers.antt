-- The memory has room for the slots, the blocks have as many, and the strip is closed.
use Rattle.std.proofs.Common.{rules, ◌≡◌, ℕ, ◌≤◌, true, false, List, length, take, drop, sym, ap, ◌∙◌, arith}
use borrow.Rule.Slice.PartMut.{put_mid}
use Rattle.std.proofs.lemmas.List.{length-append, length-take-le}
use Rattle.std.proofs.lemmas.Slice.{take-put_mid}
use Rattle.showfile.specs.Told.{blocks, head, others, slot_bytes, slots_read, slots_told}
use Rattle.showfile.proofs.Bytes.{bytes_told}
use Rattle.showfile.proofs.Loaded.{loaded, told_fit}
use Rattle.showfile.proofs.reading.load.Goals as goal

pub slice_bounds-fill-end : goal.slice_bounds-fill-end
slice_bounds-fill-end c =
    let file = c.args.file.now in
    let bytes = bytes_told file (λ i. omega (arith, c.type_inv.file i)) in
    (told_fit file (length c.args.memory.now) bytes c.requires.unrefused c.args.told.now c.requires.told).0

pub slice_bounds-fill-end-2 : goal.slice_bounds-fill-end-2
slice_bounds-fill-end-2 c =
    let file = c.args.file.now in
    let memory = c.args.memory.now in
    let bytes = bytes_told file (λ i. omega (arith, c.type_inv.file i)) in
    let fits = told_fit file (length memory) bytes c.requires.unrefused c.args.told.now c.requires.told in
    sym (length-take-le c.args.told.now.slots memory fits.0)

pub fill-requires : goal.fill-requires
fill-requires c =
    let file = c.args.file.now in
    let memory = c.args.memory.now in
    let bytes = bytes_told file (λ i. omega (arith, c.type_inv.file i)) in
    let fits = told_fit file (length memory) bytes c.requires.unrefused c.args.told.now c.requires.told in
    let behind : c.split_at.result.1.now ≡ others (blocks file) = search rules in
    omega (arith, length-take-le c.args.told.now.slots memory fits.0, fits.1, ap length behind)

pub unreachable-requires : goal.unreachable-requires
unreachable-requires c =
    let file = c.args.file.now in
    let memory = c.args.memory.now in
    let new = c.fill.new.memory in
    let told = c.args.told.now in
    let n = told.slots in
    let bytes = bytes_told file (λ i. omega (arith, c.type_inv.file i)) in
    let fits = told_fit file (length memory) bytes c.requires.unrefused told c.requires.told in
    let behind : c.split_at.result.1.now ≡ others (blocks file) = search rules in
    let size = length-take-le n memory fits.0 in
    let filled : new ≡ slots_read (blocks file)
    = c.fill.ensures ∙ ap (λ (k : ℕ). take k (slot_bytes c.split_at.result.1.now)) (size ∙ c.requires.told.slots)
    ∙ ap (λ (bs : List (List ℕ)). take (slots_told (head (blocks file))) (slot_bytes bs)) behind in
    let long : length new ≡ n = c.fill.auto.memory ∙ size in
    let slots = take-put_mid 0 n memory new n (omega (arith, long)) (omega arith) ∙ filled in
    let after = put_mid 0 n memory new in
    let within : n ≤ length after = omega (arith, long, length-append new (drop n memory)) in
    let well = loaded file (length memory) bytes c.requires.unrefused told c.requires.told after within slots in
    absurd (no_grant (c.in-Err.ensures.granted.1 well))
  where
    no_grant : false ≡ true → ⊥
    no_grant e = absurd cc
