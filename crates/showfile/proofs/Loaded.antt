-- A strip that is loaded into a memory.
use Rattle.std.proofs.Common.{◌≡◌, ℕ, ◌*◌, ◌/◌, ◌+◌, ◌≤◌, List, length, take, sym, ap, subst, ◌∙◌, arith}
use Rattle.std.specs.Prelude.{All, None}
use Rattle.std.proofs.lemmas.List.{length-take-le, take_all}
use Rattle.readings.specs.Lists.{rows_of}
use Rattle.strip.specs.WellClosed.{WellClosed}
use Rattle.readings.proofs.Firsts.{or_clear}
use Rattle.showfile.specs.Heads.{IsTold}
use Rattle.showfile.specs.Reading.{file_refusal}
use Rattle.showfile.specs.Told.{blocks, head, others, slots_read, slots_told, strip_read}
use Rattle.showfile.specs.declared.head.Head.{Head}
use Rattle.showfile.proofs.Bytes.{AreBytes}
use Rattle.showfile.proofs.Found.{found}
use Rattle.showfile.proofs.Unrefused.{unrefused}

-- a file that nothing refuses, and what its first block tells
module _ (file : List ℕ) (room : ℕ) (bytes : AreBytes file) (e : file_refusal file room ≡ None)
    (told : Head) (is : IsTold told (head (blocks file))) where
  -- there is room for so many slots, and the blocks have as many
  pub told_fit : (told.slots ≤ room) × (told.slots ≤ 504 * length (others (blocks file)))
  told_fit =
      let all = unrefused (blocks file) room (or_clear _ _ e).1 in
      let count : length (others (blocks file)) ≡ (slots_told (head (blocks file)) + 503) / 504 = all.count in
      (omega (arith, is.slots, all.numbers.fit), omega (arith, is.slots, count))

  -- a memory that begins with the slots holds the strip that the file tells
  pub loaded : (memory : List ℕ) → told.slots ≤ length memory → take told.slots memory ≡ slots_read (blocks file)
      → WellClosed (length (rows_of told.list)) memory told.slots told.first told.last
  loaded memory fits slots_are =
      let s = strip_read (blocks file) in
      let w = (found file room bytes e).closed.closed in
      let size : told.slots ≡ length s.slots = sym (length-take-le told.slots memory fits) ∙ ap length slots_are in
      let all = take_all (length s.slots) s.slots (omega arith) ∙ sym slots_are in
      let named = subst (All (λ row. row ≤ length s.rows)) all w.named in
      record {
        some = omega (arith, size, w.some);
        few = omega (arith, size, w.few);
        room = fits;
        from_one = omega (arith, is.first, w.from_one);
        ordered = omega (arith, is.first, is.last, w.ordered);
        inside = omega (arith, size, is.last, w.inside);
        named = subst (λ (k : ℕ). All (λ row. row ≤ k) (take told.slots memory)) (sym (ap length is.list)) named;
      }
