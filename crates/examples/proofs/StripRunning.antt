-- What the parts of a run of an example about strips come to.
use Rattle.std.proofs.Common.{◌≡◌, ℕ, ◌<◌, ◌≤◌, List, None, Some, Option, Ok, Err, refl, subst, arith, lit≤}
use Rattle.std.specs.Prelude.{IfNone, IsSome}
use Rattle.readings.specs.Refusals.{content}
use Rattle.readings.specs.declared.reading.Reading.{Reading}
use Rattle.readings.specs.declared.refusal.Refusal.{Refusal}
use Rattle.strip.specs.Positions.{Position}
use Rattle.strip.specs.Strips.{Strip, laid_strip, start_of}
use Rattle.examples.specs.Lists.{readings_x}
use Rattle.examples.specs.Strips.{samples_before}
use Rattle.examples.specs.declared.ending.Ending.{Ending}
use Rattle.examples.proofs.Gives.{each_below}
use Rattle.examples.proofs.Made.{made_x, played_x, strip_x}
use Rattle.examples.proofs.StripOnly.{known_x, made_or_not}

-- X on 89 slots is not refused
pub not_refused_x : (ds : List Reading) (r : Refusal) → ds ≡ readings_x
    → laid_strip ds 89 ≡ Err (content r) → ⊥
not_refused_x ds r e refused =
    made_or_not readings_x 89 strip_x r made_x (subst (λ (xs : List Reading). laid_strip xs 89 ≡ Err (content r)) e refused)

-- what holds where a player of it starts
pub started_x : (ds : List Reading) (s : Strip) (p : Position) → ds ≡ readings_x → laid_strip ds 89 ≡ Ok s → p ≡ start_of s
    → (P : Position → Type 0) → P p → P (start_of strip_x)
started_x ds s p e made starts P h =
    known_x (λ t. P (start_of t)) (s, (subst (λ (xs : List Reading). laid_strip xs 89 ≡ Ok s) e made, subst P starts h))

-- its slots before slot 89 sample each of the first three rows five times or more
enough_x : (k : ℕ) → k < 3 → 5 ≤ samples_before played_x k 89
enough_x = each_below _ 3 (((tt, lit≤ tt), lit≤ tt), lit≤ tt)

-- so five are found
pub found_x : (o : Option Ending) (k : ℕ) → k ≤ 2 → IfNone o (samples_before played_x k 89 < 5) → IsSome o
found_x (Some e) k l few = refl
found_x None k l few = let enough = enough_x k (omega arith) in absurd (omega (arith, enough, few))
