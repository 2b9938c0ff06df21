-- The first of what is found by number, as the first refusal among rows.
use Rattle.std.specs.Option.{option_or}
use Rattle.std.specs.Prelude.{ℕ, zero, suc, ◌+◌, None, Option}

-- the first that f gives among n numbers from k on
unfoldable pub first_of : {A : Type 0} → (ℕ → Option A) → ℕ → ℕ → Option A
first_of f k zero = None
first_of f k (suc n) = option_or (f k) (first_of f (k + 1) n)
