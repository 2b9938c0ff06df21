-- The rows of books, lent from the first part of an array and given back.
use Rattle.std.proofs.Common.{◌≡◌, ℕ, ◌-◌, ◌<◌, List, ◌++◌, length, take, drop, None, sym, ap, ◌∙◌, subst, arith}
use native.Mathlib.Nat.{sub-zero}
use Rattle.std.proofs.lemmas.List.{length-append, length-drop, length-take-le, take_at}
use Rattle.policy.specs.Course.{Answer}
use Rattle.books.specs.declared.books.Books.{Books}
use Rattle.books.specs.declared.row.Row.{Row}
use Rattle.books.specs.Fresh.{Fresh}
use Rattle.books.specs.Held.{rows_of}
use Rattle.books.specs.Slots.{fault, slot}
use Rattle.books.specs.Valid.{Spare}
use Rattle.books.proofs.Keeps.{slot_fresh, slot_length, slot_spare}

-- the rows of any books are fresh
pub held : (b : Books) → Fresh (rows_of b)
held b = b.fresh

-- the rows as they are lent
pub lent : (n : ℕ) (all : List Row) → take (n - 0) all ≡ take n all
lent n all = ap (λ (m : ℕ). take m all) (sub-zero n)

-- books whose rows are taken through a slot without a fault
module _ (b : Books) (a : Answer) (out : List Row) (calm : fault a (rows_of b) ≡ None) (e : out ≡ slot a (take (b.count - 0) b.rows)) where
  pub after_is : out ≡ slot a (rows_of b)
  after_is = e ∙ ap (slot a) (lent b.count b.rows)

  -- the rows are fresh again
  pub after_fresh : Fresh out
  after_fresh = subst Fresh (sym after_is) (slot_fresh a (rows_of b) b.fresh calm)

  -- and what is left of the margin may pass
  pub after_spare : 0 < b.margin → Spare out (b.margin - 1)
  after_spare p = subst (λ (rs : List Row). Spare rs (b.margin - 1)) (sym after_is) (slot_spare a (rows_of b) b.fresh b.margin b.spare p)

  pub after_length : length out ≡ b.count
  after_length =
      let l = slot_length a (rows_of b) in
      let m = length-take-le b.count b.rows (omega arith) in
      let s = ap length after_is in
      omega arith

  -- the array that they are given back to
  pub back_long : length (out ++ drop (b.count - 0) b.rows) ≡ 16
  back_long = let l = after_length in omega (arith, length-append out (drop (b.count - 0) b.rows), length-drop (b.count - 0) b.rows)

  pub back_rows : take b.count (out ++ drop (b.count - 0) b.rows) ≡ out
  back_rows = take_at out (drop (b.count - 0) b.rows) b.count after_length
