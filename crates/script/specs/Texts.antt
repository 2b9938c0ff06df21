-- How a whole script is answered.
use Rattle.std.specs.Prelude.{◌≡◌, ℕ, List, [], ◌∷◌, length, MatchBool, nat_le}
use Rattle.lines.specs.Pieces.{pieces}
use Rattle.script.specs.Lines.{LineAnswered}
use Rattle.script.specs.Replies.{Said, refused}
use Rattle.script.specs.States.{State, first_state}

-- the answer to what stands behind the last byte 10: a line cut short, unless nothing stands there
abbrev pub rest_answer : List ℕ → List (List Said)
rest_answer [] = []
rest_answer _ = (refused (24, []) ∷ []) ∷ []

-- the lines that are left are answered so, each with a list of replies; the last of them is what
-- stands behind the last byte 10
abbrev pub LinesAnswered : State → List (List ℕ) → List (List Said) → Type 0
LinesAnswered s [] answers = answers ≡ []
LinesAnswered s (rest ∷ []) answers = answers ≡ rest_answer rest
LinesAnswered s (line ∷ next ∷ more) [] = ⊥
LinesAnswered s (line ∷ next ∷ more) (rs ∷ answers) =
    (u : State) × LineAnswered line s rs u × LinesAnswered u (next ∷ more) answers

-- a text is answered so: one of at most 16,384 bytes line by line, and a longer one by 24 alone
abbrev pub Rehearses : List ℕ → List (List Said) → Type 0
Rehearses text answers =
    MatchBool (nat_le (length text) 16384)
    (LinesAnswered first_state (pieces 10 text) answers)
    (answers ≡ (refused (24, []) ∷ []) ∷ [])
