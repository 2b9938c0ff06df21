-- The strip of a list, as the code makes it.
use Rattle.std.proofs.Common.{◌≡◌, ℕ, leb, List, [], map, Ok, Err, None, inl, inr, refl}
use Rattle.std.proofs.lemmas.Bool.{cases_Bool}
use Rattle.readings.specs.declared.reading.Reading.{Reading}
use Rattle.books.specs.Rows.{come_on}
use Rattle.deferral.specs.Laying.{lay}
use Rattle.strip.specs.Closings.{loop_of}
use Rattle.strip.specs.LaidIn.{lay_within}
use Rattle.strip.specs.Strips.{laid_strip}

-- more slots than a strip may have are refused, whether or not the memory has room
pub laid_within : (room : ℕ) (rs : List Reading) (n : ℕ) → room ≡ 32767 → lay_within room rs n ≡ lay rs n
laid_within room rs n e =
    rw e (elim (cases_Bool (leb n 32767)) [
      | inl fits ↦ rw fits refl
      | inr over ↦ elim (cases_Bool (leb 1 n)) [ inl some ↦ rw (over, some) refl | inr none ↦ rw (over, none) refl ]
    ])

-- what is laid and does not close
pub not_closed : (rs given : List Reading) (n : ℕ) (laid : List ℕ × ℕ) → lay given n ≡ Ok laid → rs ≡ given
    → loop_of laid.0 laid.1 (map come_on rs) ≡ None → laid_strip given n ≡ Err (9, [])
not_closed rs given n laid e f none = rw e (rw (rw f at none) refl)
