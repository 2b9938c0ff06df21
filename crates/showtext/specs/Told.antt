-- What is told of a show file: lines, each ended by byte 10.
use Rattle.std.specs.List.{flat_map}
use Rattle.std.specs.Prelude.{◌≡◌, ℕ, ◌+◌, ◌-◌, List, ◌++◌, codes, decimal, length, map, Ok, Err, Result}
use Rattle.readings.specs.Refusals.{Content, written}
use Rattle.readings.specs.declared.reading.Reading.{Reading}
use Rattle.books.specs.Rows.{come_on}
use Rattle.strip.specs.Meanings.{strip_meaning}
use Rattle.strip.specs.Strips.{Strip, start_of}
use Rattle.walk.specs.Walks.{Outcome, Walks, granted, refused}

-- a row: its id, its work length and its validity
abbrev pub row_line : Reading → List ℕ
row_line r =
    codes "reading " ++ decimal r.id ++ codes " " ++ decimal r.work ++ codes " "
    ++ decimal r.validity ++ codes "\n"

-- how many slots a strip has
abbrev pub slots_line : Strip → List ℕ
slots_line s = codes "slots " ++ decimal (length s.slots) ++ codes "\n"

-- the first and the last slot of its loop
abbrev pub loop_line : Strip → List ℕ
loop_line s = codes "loop " ++ decimal s.first ++ codes " " ++ decimal s.last ++ codes "\n"

-- a strip: its rows, its slots and its loop
abbrev pub strip_lines : Strip → List ℕ
strip_lines s = flat_map row_line s.rows ++ slots_line s ++ loop_line s

-- what a walk answers: the mark and the length of the loop that it finds, or its refusal
abbrev pub outcome_line : Outcome → List ℕ
outcome_line (granted mark length) =
    codes "walk " ++ decimal mark ++ codes " " ++ decimal length ++ codes "\n"
outcome_line (refused said) = written said ++ codes "\n"

-- a text tells what a file is read as: the refusal alone, or the strip, and how a walk of it ends
-- that is played from its start with new books
abbrev pub Tells : Result Strip Content → (text : List ℕ) → Type 0
Tells (Err refusal) text = text ≡ written refusal ++ codes "\n"
Tells (Ok s) text =
    (o : Outcome) × Walks strip_meaning (start_of s) (map come_on s.rows) o
    × (text ≡ strip_lines s ++ outcome_line o)

-- a strip, and a walk of it that is granted with its loop, is what is told of it
abbrev pub TellsGrant : Strip → Type 0
TellsGrant s =
    Tells (Ok s) (strip_lines s ++ outcome_line (granted s.first (s.last + 1 - s.first)))
