-- The walk of a bank is that of the policy that it uses.
use Rattle.std.proofs.Common.{◌≡◌, ◌≢◌, ℕ, zero, suc, ◌+◌, List, refl, ap, sym, ◌∙◌, subst}
use mathlib.Core.Path.{fun_ext}
use Rattle.std.proofs.lemmas.Bool.{eq-eqb, ne_eqb}
use Rattle.policy.specs.Banks.{bank_meaning}
use Rattle.policy.specs.Course.{Course, Meaning}
use Rattle.books.specs.Slots.{books_at, fault_at}
use Rattle.books.specs.declared.row.Row.{Row}
use Rattle.repeat.specs.Marks.{after, mark_of}
use Rattle.walk.specs.Walks.{Repeats, Walks, granted}

module _ {A B : Type 0} (first : Meaning A) (second : Meaning B) (a : A) (p : B) (used : ℕ) (other : used ≢ 1) where
  -- the bank, and where it stands
  abbrev bank : Meaning (A × B × ℕ)
  bank = bank_meaning first second

  abbrev start : A × B × ℕ
  start = (a, p, used)

  -- its course is that of the second policy
  course_is : bank.course start ≡ second.course p
  course_is = let e = ne_eqb used 1 other in fun_ext (λ n. rw e refl)

  -- and so are its steps
  stands : (n : ℕ) → after bank.next n start ≡ (a, after second.next n p, used)
  stands zero = refl
  stands (suc n) = let e = ne_eqb used 1 other in let before = stands n in rw (before, e) refl

  -- and its comparisons
  alike_is : (q r : B) → bank.alike (a, q, used) (a, r, used) ≡ second.alike q r
  alike_is q r = let e = ne_eqb used 1 other in rw (eq-eqb used used refl, e) refl

  module _ (rs : List Row) where
    -- the bank stands alike at two instants where the second policy does
    alike_at : (t u : ℕ) → bank.alike (after bank.next t start) (after bank.next u start) ≡ second.alike (after second.next t p) (after second.next u p)
    alike_at t u =
        ap (λ (x : A × B × ℕ). bank.alike x (after bank.next u start)) (stands t)
        ∙ ap (bank.alike (a, after second.next t p, used)) (stands u)
        ∙ alike_is (after second.next t p) (after second.next u p)

    -- so the one repeats where the other does
    repeats_there : (t : ℕ) → Repeats second p rs t → Repeats bank start rs t
    repeats_there t (books, alike) = (
      subst (λ (c : Course). books_at c rs t ≡ books_at c rs (mark_of t)) (sym course_is) books,
      alike_at t (mark_of t) ∙ alike,
    )

    repeats_back : (t : ℕ) → Repeats bank start rs t → Repeats second p rs t
    repeats_back t (books, alike) = (
      subst (λ (c : Course). books_at c rs t ≡ books_at c rs (mark_of t)) course_is books,
      sym (alike_at t (mark_of t)) ∙ alike,
    )

    -- a walk that grants the second policy grants the bank
    pub bank_granted : (mark length : ℕ) → Walks second p rs (granted mark length) → Walks bank start rs (granted mark length)
    bank_granted mark length g =
        record {
          some = g.some;
          within = g.within;
          mark_is = g.mark_is;
          repeats = repeats_there (mark + length) g.repeats;
          faultless = λ m h. ap (λ (c : Course). fault_at c rs m) course_is ∙ g.faultless m h;
          first = λ t h l again. g.first t h l (repeats_back t again);
        }
