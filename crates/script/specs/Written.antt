-- What is written for a reply: a line, ended by byte 10.
use Rattle.std.specs.Prelude.{ℕ, if◌then◌else◌, List, ◌++◌, codes, decimal}
use Rattle.readings.specs.Refusals.{written as refusal_written}
use Rattle.board.specs.declared.call.Grant.{Grant}
use Rattle.board.specs.declared.call.Grant.TheVariants.{Started, Ticked, Switched, Shown, Stopped}
use Rattle.board.specs.declared.call.Shown as shown
use Rattle.board.specs.declared.call.Started as started
use Rattle.board.specs.declared.call.Ticked as ticked
use Rattle.script.specs.Replies.{Said, done, granted, refused}

-- `start`, the mark and the length
abbrev pub start_written : started.Started → List ℕ
start_written s = codes "start " ++ decimal s.mark ++ codes " " ++ decimal s.length

-- the rows sampled as a mask, the row run, the row shown, and 1 for a crossing or 0
abbrev pub tick_written : ticked.Ticked → List ℕ
tick_written t =
    decimal t.sampled ++ codes " " ++ decimal t.run ++ codes " " ++ decimal t.shown ++ codes " "
    ++ decimal (if t.crossed then 1 else 0)

-- `show`, the age and the validity, or `none` without a value
abbrev pub show_written : shown.Shown → List ℕ
show_written s =
    if s.value then codes "show " ++ decimal s.age ++ codes " " ++ decimal s.validity
    else codes "show none"

abbrev pub granted_written : Grant → List ℕ
granted_written (Started s) = start_written s
granted_written (Ticked t) = tick_written t
granted_written (Switched ticks) = codes "switch " ++ decimal ticks
granted_written (Shown s) = show_written s
granted_written Stopped = codes "ok"

abbrev pub written : Said → List ℕ
written done = codes "ok\n"
written (granted grant) = granted_written grant ++ codes "\n"
written (refused refusal) = refusal_written refusal ++ codes "\n"
