-- The slots that sample a row, found one after the other.
use Rattle.std.proofs.Common.{◌≡◌, ℕ, ◌+◌, ◌/◌, ◌%◌, ◌^◌, ◌<◌, true, false, List, length, get_or, set, sym, ap, ◌∙◌, refl, subst, add-one, below_more, get_or-set_other, get_or-set_same, length-set, arith}
use Rattle.std.proofs.lemmas.Bool.{eq-eqb, ne_eqb}
use Rattle.policy.specs.Course.{Answer, Course, names}
use Rattle.examples.specs.Strips.{SampleAt, samples_before}

-- so many of the n slots of a course before this one sampled row k + 1, fewer than five: those that
-- were found, in places for five; the rest of the course is to come
pub record FoundBefore (c : Course) (k n count : ℕ) (found : List ℕ) (rest : Course) : Type 0 where
  pub course_is : (m : ℕ) → rest m ≡ c (n + m)
  pub counted : count ≡ samples_before c k n
  pub few : count < 5
  pub places : length found ≡ 5
  pub each : (j : ℕ) → j < count → SampleAt c k j (get_or found j 0)

module _ (c : Course) (k n : ℕ) where
  -- a slot that samples the row is one more
  one_more : names (c n).0 k ≡ true → samples_before c k n + 1 ≡ samples_before c k (n + 1)
  one_more h = rw (add-one n, h) refl

  -- and another is not
  no_more : names (c n).0 k ≡ false → samples_before c k n ≡ samples_before c k (n + 1)
  no_more h = rw (add-one n, h) (omega arith)

  module _ (count : ℕ) (found : List ℕ) (rest : Course) (b : FoundBefore c k n count found rest) (a : Answer) (answered : a ≡ rest 0) where
    -- the next answer is that of slot n of the course
    slot_is : a ≡ c n
    slot_is = answered ∙ b.course_is 0 ∙ ap c (omega arith)

    samples_here : a.0 / 2 ^ k % 2 ≡ 1 → names (c n).0 k ≡ true
    samples_here h = subst (λ (x : Answer). names x.0 k ≡ true) slot_is (eq-eqb _ 1 h)

    none_here : (a.0 / 2 ^ k % 2 ≡ 1 → ⊥) → names (c n).0 k ≡ false
    none_here h = subst (λ (x : Answer). names x.0 k ≡ false) slot_is (ne_eqb _ 1 h)

    -- a slot that samples the row is noted
    pub noted : a.0 / 2 ^ k % 2 ≡ 1
        → (j : ℕ) → j < count + 1 → SampleAt c k j (get_or (set found count n) j 0)
    noted h =
        let fits : count < length found = let few = b.few in rw b.places few in
        below_more _ _
        (λ j l. let other : j ≡ count → ⊥ = λ e. omega arith in rw get_or-set_other (b.each j l))
        (rw get_or-set_same (record { samples = samples_here h; before = sym b.counted }))

    -- and then the rest of the course is to come
    module _ (later : Course) (moved : (m : ℕ) → later m ≡ rest (m + 1)) where
      later_is : (m : ℕ) → later m ≡ c (n + 1 + m)
      later_is m = moved m ∙ b.course_is (m + 1) ∙ ap c (omega arith)

      pub found_here : a.0 / 2 ^ k % 2 ≡ 1 → count + 1 < 5
          → FoundBefore c k (n + 1) (count + 1) (set found count n) later
      found_here h few =
          record {
            course_is = later_is;
            counted = ap (λ (x : ℕ). x + 1) b.counted ∙ one_more (samples_here h);
            few = few;
            places = rw length-set b.places;
            each = noted h;
          }

      pub not_here : (a.0 / 2 ^ k % 2 ≡ 1 → ⊥) → FoundBefore c k (n + 1) count found later
      not_here h =
          record {
            course_is = later_is;
            counted = b.counted ∙ no_more (none_here h);
            few = b.few;
            places = b.places;
            each = b.each;
          }
