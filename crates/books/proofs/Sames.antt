-- The comparison of two books row by row.
use Rattle.std.proofs.Common.{◌≡◌, ℕ, Bool, true, false, List, Decides, IsTrue, ◌↔◌, sym, refl, ap, ◌∙◌, arith}
use Rattle.std.proofs.lemmas.Slice.Eq.{slice_eq-Decides}
use Rattle.policy.specs.Course.{Course}
use Rattle.books.specs.declared.row.Row.{Row}
use Rattle.books.specs.Rows.{same_row, same_rows}
use Rattle.books.specs.Sames.{row_from, row_to}
use Rattle.books.specs.Slots.{books_at, fault_at}
use Rattle.books.proofs.Ages.{stay_equal}

-- the comparison of a row says yes exactly when both are equal
same_row_decides : (a b : Row) → Decides (same_row a b) (a ≡ b)
same_row_decides a b = (row_from a b, λ e. ap (same_row a) (sym e) ∙ row_to a)

rows_decide : (xs ys : List Row) → Decides (same_rows xs ys) (xs ≡ ys)
rows_decide xs ys = slice_eq-Decides same_row_decides xs ys (same_rows xs ys) refl

-- so does that of rows
pub rows_from : (xs ys : List Row) → same_rows xs ys ≡ true → xs ≡ ys
rows_from xs ys = (rows_decide xs ys).0

pub rows_to : (xs : List Row) → same_rows xs xs ≡ true
rows_to xs = (rows_decide xs xs).1 refl

-- a test that says the same is exact
pub compared : (xs ys : List Row) (r : Bool) → r ≡ same_rows xs ys → IsTrue r ↔ (xs ≡ ys)
compared xs ys r e = rw e (rows_decide xs ys)

-- and where it says yes both stay equal (`StayEqual`, written out)
pub lasts : (xs ys : List Row) (r : Bool) → r ≡ same_rows xs ys → r ≡ true → (c d : Course) → ((n : ℕ) → c n ≡ d n) → (n : ℕ)
    → (books_at c xs n ≡ books_at d ys n) × (fault_at c xs n ≡ fault_at d ys n)
lasts xs ys r e t = stay_equal xs ys (rows_from xs ys (sym e ∙ t))

pub refused : {P : Type 0} → (P → ⊥) → Decides false P
refused no' = (λ e. absurd (let z : ◌≡◌ {A = ℕ} 0 1 = cc in omega arith), λ p. absurd (no' p))
