-- Things that are stepped any number of times.
use Rattle.std.proofs.Common.{◌≡◌, ℕ, zero, suc, ◌+◌, refl, add-one}
use Rattle.std.specs.Fn.{iterate}
use Rattle.policy.specs.Course.{Answer, ahead}

-- the last of n + 1 steps
pub last_step : {S : Type 0} (f : S → S) (n : ℕ) (s : S) → iterate f (suc n) s ≡ f (iterate f n s)
last_step f zero s = refl
last_step f (suc n) s = last_step f n (f s)

-- what a stepped thing shows is what it would have shown a step later
pub ahead_onward : {S : Type 0} (f : S → S) (shows : S → Answer) (s : S) (n : ℕ) → ahead f shows (f s) n ≡ ahead f shows s (n + 1)
ahead_onward f shows s n = rw add-one
