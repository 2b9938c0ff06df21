-- The pieces that a value of `Pieces` has still to hand out.
use Rattle.std.specs.Prelude.{ℕ, Bool, true, false, List, [], ◌∷◌, None, Option}
use Rattle.std.specs.Option.{option_map_or}
use Rattle.lines.specs.declared.pieces.Pieces.{Pieces}
use Rattle.lines.specs.Numeral.{numeral}
use Rattle.lines.specs.Pieces.{pieces}

-- the byte at which a text is cut
abbrev pub separator_of : Pieces → ℕ
separator_of p = p.separator

-- the pieces of what lies behind the last separator that was passed; none where nothing is left
abbrev pub left : Pieces → List (List ℕ)
left p = option_map_or (λ rest. pieces p.separator rest.now) p.rest []

-- whether no piece is left
abbrev pub none_left : List (List ℕ) → Bool
none_left [] = true
none_left _ = false

-- the number that comes first; none where the first piece is no number, or no piece is left
abbrev pub first_number : List (List ℕ) → Option ℕ
first_number [] = None
first_number (w ∷ ws) = numeral w
