-- What each refusal says: its number and its values.
use Rattle.std.specs.Prelude.{ℕ, List, [], ◌∷◌, ◌++◌, codes, decimal, Some, None, Option, Ok, Err, Result}
use Rattle.readings.specs.declared.refusal.Refusal.{Refusal}
use Rattle.readings.specs.declared.refusal.Refusal.TheVariants.{Count, Range, Id, Order, Response, StripLength, FirstJob, NextJob, NoLoop, Outside, JobRule, Stale, NoRepeat, Resting, Running, CrossingWaits, Latency, NoInstant, UnknownId, FileLength, BlockSum, BlockHead, FileRest, BadLine, NoPlan}

-- a refusal's number with its values: a row counts from 1, a slot and a block from 0
abbrev pub Content : Type 0
Content = ℕ × List ℕ

-- the number and the values of each
abbrev pub content : Refusal → Content
content Count = (1, [])
content (Range row) = (2, row ∷ [])
content (Id row) = (3, row ∷ [])
content (Order row) = (4, row ∷ [])
content (Response row) = (5, row ∷ [])
content StripLength = (6, [])
content (FirstJob row) = (7, row ∷ [])
content (NextJob row) = (8, row ∷ [])
content NoLoop = (9, [])
content Outside = (10, [])
content (JobRule slot row) = (11, slot ∷ row ∷ [])
content (Stale slot row) = (12, slot ∷ row ∷ [])
content NoRepeat = (13, [])
content Resting = (14, [])
content Running = (15, [])
content CrossingWaits = (16, [])
content Latency = (17, [])
content NoInstant = (18, [])
content UnknownId = (19, [])
content FileLength = (20, [])
content (BlockSum block) = (21, block ∷ [])
content (BlockHead block) = (22, block ∷ [])
content FileRest = (23, [])
content BadLine = (24, [])
content NoPlan = (25, [])

-- a refusal's number
abbrev pub number : Refusal → ℕ
number r = (content r).0

-- a refusal as an answer has it: `no` and its number
abbrev pub written : Content → List ℕ
written r = codes "no " ++ decimal r.0

-- the refusal of a check, if it does not pass
abbrev pub refusal_of : {A : Type 0} → Result A Refusal → Option Content
refusal_of (Ok x) = None
refusal_of (Err e) = Some (content e)
