-- Numbers below 256, and lists of them.
use Rattle.std.proofs.Common.{ℕ, zero, suc, ◌<◌, All, List, get_or, length, inl, inr, arith}
use Rattle.std.specs.Int.{Width, byte_at, byte_len, bytes_high_first, to_be_bytes}
use Rattle.std.proofs.lemmas.Bool.{cases_lt}
use Rattle.std.proofs.lemmas.List.{get_or_past}
use Rattle.std.proofs.lemmas.List.Elements.{All-cons, All-from_get_or, All-nil}
use Rattle.std.proofs.lemmas.Nat.{mod_below}

-- a number is a byte
abbrev pub IsByte : ℕ → Type 0
IsByte b = b < 256

-- each number of a list is
abbrev pub AreBytes : List ℕ → Type 0
AreBytes = All IsByte

-- as is told of a slice, by the places in it
pub bytes_told : (xs : List ℕ) → ((i : ℕ) → get_or xs i 0 < 256) → AreBytes xs
bytes_told xs h = All-from_get_or IsByte xs 0 (λ i lt. h i)

-- and told again
pub told_again : (xs : List ℕ) → AreBytes xs → (i : ℕ) → get_or xs i 0 < 256
told_again xs h i =
    elim (cases_lt i (length xs)) [
      | inl lt ↦ h i 0 lt
      | inr past ↦ rw (get_or_past xs i 0 past) (omega arith)
    ]

-- each byte that a number is written in is one
byte_below : (k n : ℕ) → IsByte (byte_at k n)
byte_below zero n = mod_below n 256 (omega arith)
byte_below (suc k) n = mod_below _ 256 (omega arith)

-- so are all of them
high_first_bytes : (k n : ℕ) → AreBytes (bytes_high_first k n)
high_first_bytes zero n = All-nil IsByte
high_first_bytes (suc k) n = All-cons IsByte (byte_at k n) (bytes_high_first k n) (byte_below k n) (high_first_bytes k n)

-- so a number is written in bytes
pub number_bytes : (w : Width) (n : ℕ) → AreBytes (to_be_bytes w n)
number_bytes w n = high_first_bytes (byte_len w) n
