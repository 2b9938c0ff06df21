-- The plan script of a list, as it is spelled.
use Rattle.std.specs.List.{flat_map}
use Rattle.std.specs.Prelude.{ℕ, List, ◌++◌, codes, decimal}
use Rattle.readings.specs.declared.reading.Reading.{Reading}
use Rattle.showtext.specs.Told.{row_line}

-- how many slots its strip is to have
abbrev pub defer_line : ℕ → List ℕ
defer_line n = codes "defer " ++ decimal n ++ codes "\n"

-- the line `plan`, one for each row, and the one that ends it
abbrev pub plan_script : List Reading → (slots : ℕ) → List ℕ
plan_script rows slots = codes "plan\n" ++ (flat_map row_line rows ++ defer_line slots)
