-- What a refusal says, its content, says which refusal it is.
use Rattle.std.proofs.Common.{◌≡◌, ℕ, List, [], ◌∷◌, get_or, refl}
use Rattle.readings.specs.Refusals.{Content, content}
use Rattle.readings.specs.declared.refusal.Refusal.{Refusal}
use Rattle.readings.specs.declared.refusal.Refusal.TheVariants.{Count, Range, Id, Order, Response, StripLength, FirstJob, NextJob, NoLoop, Outside, JobRule, Stale, NoRepeat, Resting, Running, CrossingWaits, Latency, NoInstant, UnknownId, FileLength, BlockSum, BlockHead, FileRest, BadLine, NoPlan}

-- the refusals that values can stand for, by their numbers from 1 on
abbrev refusals : (a b : ℕ) → List Refusal
refusals a b =
    NoPlan
    ∷ Count
    ∷ Range a
    ∷ Id a
    ∷ Order a
    ∷ Response a
    ∷ StripLength
    ∷ FirstJob a
    ∷ NextJob a
    ∷ NoLoop
    ∷ Outside
    ∷ JobRule a b
    ∷ Stale a b
    ∷ NoRepeat
    ∷ Resting
    ∷ Running
    ∷ CrossingWaits
    ∷ Latency
    ∷ NoInstant
    ∷ UnknownId
    ∷ FileLength
    ∷ BlockSum a
    ∷ BlockHead a
    ∷ FileRest
    ∷ BadLine
    ∷ NoPlan
    ∷ []

-- the refusal with this content
abbrev pub refusal_with : Content → Refusal
refusal_with t = get_or (refusals (get_or t.1 0 0) (get_or t.1 1 0)) t.0 NoPlan

pub refusal_with-content : (r : Refusal) → refusal_with (content r) ≡ r
refusal_with-content Count = refl
refusal_with-content (Range row) = refl
refusal_with-content (Id row) = refl
refusal_with-content (Order row) = refl
refusal_with-content (Response row) = refl
refusal_with-content StripLength = refl
refusal_with-content (FirstJob row) = refl
refusal_with-content (NextJob row) = refl
refusal_with-content NoLoop = refl
refusal_with-content Outside = refl
refusal_with-content (JobRule slot row) = refl
refusal_with-content (Stale slot row) = refl
refusal_with-content NoRepeat = refl
refusal_with-content Resting = refl
refusal_with-content Running = refl
refusal_with-content CrossingWaits = refl
refusal_with-content Latency = refl
refusal_with-content NoInstant = refl
refusal_with-content UnknownId = refl
refusal_with-content FileLength = refl
refusal_with-content (BlockSum block) = refl
refusal_with-content (BlockHead block) = refl
refusal_with-content FileRest = refl
refusal_with-content BadLine = refl
refusal_with-content NoPlan = refl
