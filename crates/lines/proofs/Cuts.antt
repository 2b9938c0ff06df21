-- Where a text is cut first, and what is left of it then.
use Rattle.std.proofs.Common.{◌≡◌, ℕ, ◌+◌, ◌<◌, ◌==◌, Bool, false, List, [], ◌∷◌, length, take, drop, Some, None, position, refl, arith}
use Rattle.std.proofs.lemmas.Bool.Decides.{nat_tests}
use Rattle.std.proofs.lemmas.List.{take_rest}
use Rattle.std.proofs.lemmas.List.Elements.{All-from_get_or}
use Rattle.std.proofs.lemmas.List.Splits.{length-slice_split, slice_split_first, slice_split_none}
use Rattle.std.proofs.lemmas.List.Sums.{fails_before_first}
use Rattle.std.proofs.lemmas.Option.{cond_some}
use Rattle.std.specs.List.{slice_split}
use Rattle.lines.specs.Left.{none_left}
use Rattle.lines.specs.Pieces.{pieces}

-- where no byte passes, the text is the one part
pub one_part : (p : ℕ → Bool) (s : List ℕ) → position p s ≡ None → slice_split p s ≡ s ∷ []
one_part p s h =
    slice_split_none p s (All-from_get_or (λ b. p b ≡ false) s 0
    (λ k lt. fails_before_first p s k 0 (grind (arith, nat_tests))))

-- the first part ends before the first byte that passes, and the others are those of what lies
-- behind it
pub first_part : (p : ℕ → Bool) (s : List ℕ) (i : ℕ) → position p s ≡ Some i
    → slice_split p s ≡ take i s ∷ slice_split p (drop (i + 1) s)
first_part p s i h =
    let at = cond_some _ _ i h in
    let within : i < length s = grind (arith, nat_tests) in
    let e = slice_split_first p s 0 (omega arith) in
    grind (arith, e)

-- how a text is cut
pub ruleset cuts = (one_part, first_part, take_rest)

-- a list of one or more pieces has some left
some_left : (ws : List (List ℕ)) → 0 < length ws → none_left ws ≡ false
some_left [] h = absurd (omega arith)
some_left (w ∷ ws) h = refl

-- no text has no piece
pub some_piece : (mark : ℕ) (s : List ℕ) → none_left (pieces mark s) ≡ false
some_piece mark s = some_left _ (omega (arith, length-slice_split (λ b. b == mark) s))
