-- A granted walk has a loop.
use Rattle.std.proofs.Common.{ltb, ◌≡◌, ℕ, zero, suc, ◌+◌, ◌-◌, ◌*◌, ◌/◌, ◌%◌, ◌<◌, ◌≤◌, List, refl, sym, ap, ◌∙◌, add-suc, add-zero, arith}
use Rattle.std.proofs.lemmas.Bool.{cond_both, le-ltb, ltb-false}
use Rattle.std.proofs.lemmas.Nat.{div-add-mod'}
use Rattle.std.proofs.Math.Nat.{mod-eq_of_lt, mod_self}
use Rattle.policy.specs.Course.{Course, Meaning}
use Rattle.repeat.specs.Marks.{mark_of}
use Rattle.books.specs.Slots.{books_at}
use Rattle.books.specs.declared.row.Row.{Row}
use Rattle.walk.specs.Loops.{Loops, in_loop}
use Rattle.walk.specs.StepLaws.{course_at}
use Rattle.walk.specs.Walks.{Grants}

-- what comes again every `length` slots from the mark on
module _ {X : Type 0} (f : ℕ → X) (mark length : ℕ) (again : (n : ℕ) → mark ≤ n → f (n + length) ≡ f n) where
  -- comes again after any number of turns
  after_turns : (turns r : ℕ) → f (mark + (turns * length + r)) ≡ f (mark + r)
  after_turns zero r = ap f (omega arith)
  after_turns (suc turns) r =
      let same : mark + (suc turns * length + r) ≡ (mark + (turns * length + r)) + length = omega arith in
      ap f same ∙ again (mark + (turns * length + r)) (omega arith) ∙ after_turns turns r

  -- and so each slot shows what the one does as which it is played
  pub played : (n : ℕ) → f n ≡ f (in_loop mark length n)
  played n =
      cond_both (ltb n mark) n (mark + (n - mark) % length) (λ m. f n ≡ f m) (λ _. refl) (λ out.
      let past = ltb-false n mark out in
      let parts = div-add-mod' (n - mark) length in
      ap f (omega arith) ∙ after_turns ((n - mark) / length) ((n - mark) % length))

-- from the mark on
from_mark : (mark length n : ℕ) → mark ≤ n → in_loop mark length n ≡ mark + (n - mark) % length
from_mark mark length n past = rw (le-ltb n mark past) refl

module _ {Pos : Type 0} (kind : Meaning Pos) (p : Pos) (rs : List Row) (mark length : ℕ) (w : Grants kind p rs mark length) where
  abbrev c : Course
  c = kind.course p

  -- where the positions compare yes, answers are equal ever after
  again : (k : ℕ) → c ((mark + length) + k) ≡ c (mark + k)
  again k =
      let there = course_at kind p (mark + length) k in
      let here = course_at kind p (mark_of (mark + length)) k in
      let same = kind.agree _ _ w.repeats.1 k in
      let at_mark : c (mark_of (mark + length) + k) ≡ c (mark + k) = ap (λ m. c (m + k)) (sym w.mark_is) in
      cc

  -- and so are the books
  books_again : (k : ℕ) → books_at c rs ((mark + length) + k) ≡ books_at c rs (mark + k)
  books_again zero =
      let there = w.repeats.0 in
      let at_mark : books_at c rs (mark_of (mark + length)) ≡ books_at c rs mark = ap (books_at c rs) (sym w.mark_is) in
      rw (add-zero (mark + length), add-zero mark) (there ∙ at_mark)
  books_again (suc k) =
      let same = again k in
      let before = books_again k in
      rw (add-suc (mark + length) k, add-suc mark k) cc

  -- so what comes again from the mark on does at every slot from there
  at_slot : {X : Type 0} (f : ℕ → X) → ((k : ℕ) → f ((mark + length) + k) ≡ f (mark + k)) → (n : ℕ) → mark ≤ n → f (n + length) ≡ f n
  at_slot f same n h =
      let past : n + length ≡ (mark + length) + (n - mark) = omega arith in
      let here : mark + (n - mark) ≡ n = omega arith in
      ap f past ∙ same (n - mark) ∙ ap f here

  -- a granted walk has a loop
  pub loops : Loops c rs mark length
  loops =
      let some = w.some in
      record {
        some = some;
        last_inside = λ n last.
            let place : n - mark ≡ length - 1 = omega arith in
            let less : length - 1 < length = omega arith in
            from_mark mark length n (omega arith) ∙ ap (λ m. mark + m) (ap (λ m. m % length) place ∙ mod-eq_of_lt less) ∙ omega arith;
        first_outside = λ n first.
            let past : n - mark ≡ length = omega arith in
            from_mark mark length n (omega arith) ∙ ap (λ m. mark + m) (ap (λ m. m % length) past ∙ mod_self length) ∙ add-zero mark;
        answers = at_slot c again;
        books = at_slot (books_at c rs) books_again;
        played_answer = played c mark length (at_slot c again);
        played_books = played (books_at c rs) mark length (at_slot (books_at c rs) books_again);
      }
