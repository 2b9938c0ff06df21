-- Courses that are stepped side by side.
use Rattle.std.proofs.Common.{◌≡◌, ℕ, zero, suc, ◌+◌, ◌<◌, Bool, true, false, sym, refl, ap, ◌∙◌, inl, inr, arith}
use Rattle.std.proofs.lemmas.Bool.{and_from, and_left, and_right, cases_order, eq-eqb}
use Rattle.policy.specs.Course.{Answer, Course, agree_for, same_answer}

-- the answers of a step are those that the courses have there
pub answered : {S T : Type 0} (left : S → Course) (right : T → Course) (s : S) (t : T) (a b : Course) (i : ℕ) (r : Bool) → ((n : ℕ) → left s n ≡ a (i + n)) → ((n : ℕ) → right t n ≡ b (i + n)) → r ≡ same_answer (left s 0) (right t 0) → r ≡ same_answer (a i) (b i)
answered left right s t a b i r far_left far_right e =
    let here : i + 0 ≡ i = omega arith in
    let x : left s 0 ≡ a i = far_left 0 ∙ ap a here in
    let y : right t 0 ≡ b i = far_right 0 ∙ ap b here in
    cc

-- one slot with different answers is enough
differ_at : (a b : Course) (i n : ℕ) → i < n → same_answer (a i) (b i) ≡ false → agree_for a b n ≡ false
differ_at a b i zero h e = absurd (omega arith)
differ_at a b i (suc n) h e =
    elim (cases_order i n) [
      | inl same ↦ and_right _ (same_answer (a n) (b n)) (rw same at e)
      | inr (inl less) ↦ and_left _ _ (differ_at a b i n less e)
      | inr (inr more) ↦ absurd (omega arith)
    ]

pub differ : (a b : Course) (i n : ℕ) (r : Bool) → i < n → r ≡ same_answer (a i) (b i) → r ≡ false → false ≡ agree_for a b n
differ a b i n r h e other = sym (differ_at a b i n h (sym e ∙ other))

-- equal courses agree for any number of slots
same_self : (x : Answer) → same_answer x x ≡ true
same_self x = and_from _ _ (eq-eqb x.0 _ refl) (eq-eqb x.1 _ refl)

agree_all : (a b : Course) → ((n : ℕ) → a n ≡ b n) → (n : ℕ) → agree_for a b n ≡ true
agree_all a b h zero = refl
agree_all a b h (suc n) = and_from _ _ (agree_all a b h n) (ap (λ (x : Answer). same_answer x (b n)) (h n) ∙ same_self (b n))

pub equal_agree : (a b : Course) (n : ℕ) (r : Bool) → r ≡ agree_for a b n → ((n : ℕ) → a n ≡ b n) → r ≡ true
equal_agree a b n r e h = e ∙ agree_all a b h n
