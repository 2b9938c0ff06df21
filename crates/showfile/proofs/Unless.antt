-- A refusal unless a test is passed, and refusals one after the other.
use Rattle.std.proofs.Common.{◌≡◌, Bool, true, false, None, Option, refl}
use Rattle.std.specs.Option.{option_or}
use Rattle.readings.specs.Refusals.{Content}
use Rattle.showfile.specs.Reading.{unless}

-- a test without a refusal is passed
pub passed : (test : Bool) (refusal : Content) → unless test refusal ≡ None → test ≡ true
passed true refusal e = refl
passed false refusal e = absurd cc

-- and one that is passed has none
pub test_clear : (test : Bool) (refusal : Content) → test ≡ true → unless test refusal ≡ None
test_clear test refusal h = rw h

-- two parts without a refusal have none together
pub both_clear : (first second : Option Content) → first ≡ None → second ≡ None → option_or first second ≡ None
both_clear first second f s = rw (f, s)
