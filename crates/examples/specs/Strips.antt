-- What gives the ending of an example about strips: a strip that is laid and closed, the slots that
-- sample a row, a walk of a player, a strip from outside.
use Rattle.std.specs.Prelude.{◌≡◌, ℕ, zero, suc, ◌+◌, if◌then◌else◌, List, length, Ok, Err, Result}
use Rattle.readings.specs.Refusals.{content}
use Rattle.readings.specs.declared.reading.Reading.{Reading}
use Rattle.readings.specs.declared.refusal.Refusal.{Refusal}
use Rattle.policy.specs.Course.{Course, names}
use Rattle.books.specs.Ages.{Samples}
use Rattle.strip.specs.WellClosed.{WellClosed}
use Rattle.strip.specs.Meanings.{strip_meaning}
use Rattle.strip.specs.Strips.{Strip, laid_strip, start_of}
use Rattle.examples.specs.Endings.{WalkGives}
use Rattle.examples.specs.declared.ending.Ending.{Ending}
use Rattle.examples.specs.declared.ending.Ending.TheVariants.{Loop, Slots}

-- a list laid on n slots makes a strip, and P holds of it
abbrev pub StripGives : List Reading → (n : ℕ) → (Strip → Type 0) → Type 0
StripGives rs n P = (s : Strip) × ((laid_strip rs n ≡ Ok s) × P s)

-- the first and the last slot of its loop, or the refusal
abbrev pub LoopGives : List Reading → (n : ℕ) → Result Ending Refusal → Type 0
LoopGives rs n (Ok (Loop first last)) =
    StripGives rs n (λ s. (s.first ≡ first) × (s.last ≡ last))
LoopGives rs n (Err refusal) = laid_strip rs n ≡ Err (content refusal)
LoopGives rs n _ = ⊥

-- how many slots of a course before slot n sample row k + 1
abbrev pub samples_before : Course → (k n : ℕ) → ℕ
samples_before c k zero = 0
samples_before c k (suc n) = samples_before c k n + (if names (c n).0 k then 1 else 0)

-- a slot samples row k + 1, and j slots before it do
pub record SampleAt (c : Course) (k j slot : ℕ) : Type 0 where
  pub samples : Samples c k slot
  pub before : samples_before c k slot ≡ j

-- these are the first five slots of a course that sample row k + 1
abbrev pub SamplesGive : Course → (k : ℕ) → Result Ending Refusal → Type 0
SamplesGive c k (Ok (Slots first second third fourth fifth)) =
    SampleAt c k 0 first
    × SampleAt c k 1 second
    × SampleAt c k 2 third
    × SampleAt c k 3 fourth
    × SampleAt c k 4 fifth
SamplesGive c k _ = ⊥

-- a walk of a player of a strip ends so
abbrev pub PlayerGives : Strip → Result Ending Refusal → Type 0
PlayerGives s e = WalkGives strip_meaning (start_of s) s.rows e

-- a strip from outside is granted, and a walk of its player ends so
pub record OutsideGives (s : Strip) (e : Result Ending Refusal) : Type 0 where
  pub granted : WellClosed (length s.rows) s.slots (length s.slots) s.first s.last
  pub walk : PlayerGives s e
