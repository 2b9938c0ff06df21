-- What reading asks of one block holds of each block that is spelled.
use Rattle.std.proofs.Common.{◌≡◌, ℕ, ◌+◌, ◌*◌, ◌^◌, ◌<◌, ◌≤◌, true, List, [], ◌∷◌, ◌++◌, length, None, sym, ap, ◌∙◌, mul-le-mul_right, arith}
use Rattle.std.specs.Int.{to_be_bytes, w16, w32}
use Rattle.std.proofs.lemmas.Bool.{and_from, eq-eqb}
use Rattle.std.proofs.lemmas.List.{drop_at, take_at}
use Rattle.std.proofs.lemmas.List.Elements.{All-append, All-cons, All-head, All-tail}
use Rattle.std.proofs.lemmas.Nat.{from_be_bytes-to_be_bytes_2, from_be_bytes-to_be_bytes_4}
use Rattle.showfile.specs.Blocks.{block, padded, sum_from, with_sum}
use Rattle.showfile.specs.Reading.{block_refusal, unless}
use Rattle.showfile.specs.Tests.{has_head, has_sum, kind_of}
use Rattle.showfile.specs.Told.{block_slots, number_at}
use Rattle.showfile.proofs.Bytes.{AreBytes, IsByte, number_bytes}
use Rattle.showfile.proofs.Unless.{both_clear, test_clear}
use Rattle.showfile.proofs.Zeros.{length_padded, padded_behind, padded_bytes}

-- the sum of bytes is no more than that of as many times 255, each at the place behind them
sum_bound : (place : ℕ) (bytes : List ℕ) → AreBytes bytes → sum_from place bytes ≤ 255 * (length bytes * (place + length bytes))
sum_bound place [] h = omega arith
sum_bound place (b ∷ bs) h =
    let here : b ≤ 255 = omega (arith, All-head IsByte b bs h) in
    let more = sum_bound (place + 1) bs (All-tail IsByte b bs h) in
    omega (arith, mul-le-mul_right place here)

-- the sum behind 508 bytes is found again
sum_again : (bytes : List ℕ) → length bytes ≡ 508 → AreBytes bytes → has_sum (with_sum bytes) ≡ true
sum_again bytes long h =
    let sum = sum_from 1 bytes in
    let told = to_be_bytes w32 sum in
    let small : sum < 2 ^ 32 = omega (arith, rw long at (sum_bound 1 bytes h)) in
    rw (take_at bytes told 508 long, drop_at bytes told 508 long) (eq-eqb _ _ (from_be_bytes-to_be_bytes_4 sum small))

module _ (kind number : ℕ) (body : List ℕ) where
  -- a block before its zeros and its sum
  abbrev pub front : List ℕ
  front = kind ∷ 0 ∷ (to_be_bytes w16 number ++ body)

  -- it is bytes
  front_bytes : IsByte kind → AreBytes body → AreBytes front
  front_bytes small h =
      let rest = to_be_bytes w16 number ++ body in
      let bytes = All-append IsByte (to_be_bytes w16 number) body (number_bytes w16 number) h in
      All-cons IsByte kind (0 ∷ rest) small (All-cons IsByte 0 rest (omega arith) bytes)

  -- behind its first four bytes a block has its body, with zeros behind it
  pub body_again : length body ≤ 504 → block_slots (block kind number body) ≡ padded 504 body
  body_again h =
      let sum = to_be_bytes w32 (sum_from 1 (padded 508 front)) in
      let zeros = padded_behind 504 (kind ∷ 0 ∷ to_be_bytes w16 number) body in
      ap (λ (bytes : List ℕ). block_slots (bytes ++ sum)) (sym zeros)
      ∙ take_at (padded 504 body) sum 504 (length_padded 504 body h)

  -- the number of a block is found again
  number_again : number < 2 ^ 16 → number_at 2 (block kind number body) ≡ number
  number_again h = from_be_bytes-to_be_bytes_2 number h

  -- so are its sum and its kind, and it is not refused
  pub unrefused_block : kind ≡ kind_of number → IsByte kind → number < 2 ^ 16 → length body ≤ 504 → AreBytes body
      → block_refusal number (block kind number body) ≡ None
  unrefused_block of_kind small few fits h =
      let it = block kind number body in
      let long = length_padded 508 front (omega arith) in
      let sum = sum_again (padded 508 front) long (padded_bytes 508 front (front_bytes small h)) in
      let head = and_from _ _ (eq-eqb kind (kind_of number) of_kind) (eq-eqb (number_at 2 it) number (number_again few)) in
      both_clear (unless (has_sum it) (21, number ∷ [])) (unless (has_head number it) (22, number ∷ []))
      (test_clear (has_sum it) (21, number ∷ []) sum) (test_clear (has_head number it) (22, number ∷ []) head)
