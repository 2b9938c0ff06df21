-- A block that is told whole is spelled so.
use Rattle.std.proofs.Common.{◌≡◌, ℕ, true, List, [], ◌∷◌, ◌++◌, length, drop, take, sym, ap, ap₂, ◌∙◌, arith}
use Rattle.std.specs.Int.{to_be_bytes, w16}
use Rattle.std.proofs.lemmas.Bool.{and_parts, eqb-true}
use Rattle.std.proofs.lemmas.List.{length-drop, take-append-drop}
use Rattle.std.proofs.lemmas.List.Elements.{All-drop}
use Rattle.std.proofs.lemmas.Nat.{be_bytes_4}
use Rattle.showfile.specs.Blocks.{block, padded, sum_from, with_sum}
use Rattle.showfile.specs.Tests.{has_head, has_sum, kind_of}
use Rattle.showfile.specs.Told.{block_slots, byte_at}
use Rattle.showfile.proofs.Bytes.{AreBytes, IsByte, told_again}
use Rattle.showfile.proofs.Next.{byte_next, next_two, number_next}
use Rattle.showfile.proofs.Zeros.{padded_behind}

-- bytes are block k: 512 of them, with its sum, its kind and its number, and byte 1 is 0
pub record IsBlock (k : ℕ) (b : List ℕ) : Type 0 where
  pub whole : length b ≡ 512
  pub bytes : AreBytes b
  pub sum : has_sum b ≡ true
  pub head : has_head k b ≡ true
  pub unused : byte_at 1 b ≡ 0

module _ (k : ℕ) (b : List ℕ) (is : IsBlock k b) where
  -- a block is its first 508 bytes with their sum
  sum_told : with_sum (take 508 b) ≡ b
  sum_told =
      let size : length (drop 508 b) ≡ 4 = omega (arith, length-drop 508 b, is.whole) in
      let each = told_again (drop 508 b) (All-drop IsByte 508 b is.bytes) in
      let sum = sym (eqb-true _ _ is.sum) in
      let told = be_bytes_4 (drop 508 b) (sum_from 1 (take 508 b)) size each sum in
      ap (λ (r : List ℕ). take 508 b ++ r) told ∙ take-append-drop 508 b

  -- in front stand its kind, a byte 0 and its number
  abbrev front : List ℕ
  front = kind_of k ∷ 0 ∷ to_be_bytes w16 k

  -- and behind these its bytes for slots, up to the sum
  head_told : take 508 b ≡ front ++ block_slots b
  head_told =
      let whole = is.whole in
      let both = and_parts _ _ is.head in
      let one = λ (n : ℕ). n ∷ [] in
      let kind = byte_next 0 b (omega arith) ∙ ap one (eqb-true _ _ both.0) in
      let unused = byte_next 1 b (omega arith) ∙ ap one is.unused in
      let number = number_next 2 b is.bytes (omega arith) ∙ ap (to_be_bytes w16) (eqb-true _ _ both.1) in
      let behind = ap (λ (n : List ℕ). n ++ block_slots b) number in
      next_two 0 1 507 b ∙ ap₂ ◌++◌ kind (next_two 1 1 506 b ∙ ap₂ ◌++◌ unused (next_two 2 2 504 b ∙ behind))

  -- so it is the block of a body that these 504 are, with zeros behind it
  pub block_spelled : (body : List ℕ) → block_slots b ≡ padded 504 body → b ≡ block (kind_of k) k body
  block_spelled body e =
      sym sum_told ∙ ap with_sum (head_told ∙ ap (λ (r : List ℕ). front ++ r) e ∙ padded_behind 504 front body)
