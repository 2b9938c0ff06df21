-- A text cut at each byte of one value.
use Rattle.std.specs.Prelude.{ℕ, List, ◌==◌}
use Rattle.std.specs.List.{slice_split}

-- the pieces before, between and behind the bytes that are `separator`: one piece more than there
-- are such bytes
abbrev pub pieces : ℕ → List ℕ → List (List ℕ)
pieces separator text = slice_split (λ b. b == separator) text
