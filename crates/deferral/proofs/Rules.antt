-- The rules of jobs, and what they fix.
use Rattle.std.proofs.Common.{◌≡◌, ℕ, ◌+◌, ◌<◌, ◌≤◌, true, ap, sym, ◌∙◌, subst, inl, inr, arith}
use Rattle.std.proofs.lemmas.Bool.{and_from, and_parts, leb-true, cases_lt, le-leb, ltb-true, lt-ltb}
use Rattle.deferral.proofs.Counting.{Earliest, between_agree, between_none, between_shift, earliest_one, same_end}
use Rattle.deferral.specs.Free.{Free, free_between}
use Rattle.deferral.specs.Jobs.{FirstJob, NextJob, takes}
use Rattle.deferral.specs.declared.span.Span.{Span}

-- the slots that a job takes
pub record Takes (f : Free) (s : Span) (n : ℕ) : Type 0 where
  pub free : f n ≡ true
  pub from : s.sample ≤ n
  pub before : n < s.deadline

pub takes_parts : (f : Free) (s : Span) (n : ℕ) → takes f s n ≡ true → Takes f s n
takes_parts f s n h =
    let p = and_parts _ _ h in
    let q = and_parts _ _ p.1 in
    record { free = p.0; from = leb-true s.sample n q.0; before = ltb-true n s.deadline q.1 }

pub takes_from : (f : Free) (s : Span) (n : ℕ) → Takes f s n → takes f s n ≡ true
takes_from f s n t = and_from _ _ t.free (and_from _ _ (le-leb s.sample n t.from) (lt-ltb n s.deadline t.before))

-- where some slots count, there are some
spans : (f : Free) (a b c : ℕ) → 0 < c → free_between f a b ≡ c → a < b
spans f a b c h e =
    elim (cases_lt a b) [
      | inl less ↦ less
      | inr more ↦ let none = between_none f a b more in absurd (omega arith)
    ]

-- the sample of a next job is the earliest of the last c free slots before its deadline
pub next_earliest : (f : Free) (c v : ℕ) (a b : Span) → 0 < c → NextJob f c v a b → Earliest f c b.deadline b.sample
next_earliest f c v a b h j =
    record { before = spans f b.sample b.deadline c h j.count; free = j.sample_is_free; count = j.count }

-- spans are equal where both their slots are
pub span_is : (a b : Span) → a.sample ≡ b.sample → a.deadline ≡ b.deadline → a ≡ b
span_is a b e g =
    let same : ◌≡◌ {A = Span} (record { sample = a.sample; deadline = a.deadline }) (record { sample = b.sample; deadline = b.deadline }) = cc in
    same

-- after a job comes one job only
pub next_one : (f : Free) (c v : ℕ) (s a b : Span) → 0 < c → NextJob f c v s a → NextJob f c v s b → a ≡ b
next_one f c v s a b h x y =
    let same : a.deadline ≡ b.deadline = x.deadline ∙ sym y.deadline in
    let later = subst (λ (d : ℕ). Earliest f c d b.sample) (sym same) (next_earliest f c v s b h y) in
    span_is a b (earliest_one f c a.deadline a.sample b.sample (next_earliest f c v s a h x) later) same

-- what is free past the deadline of a job says nothing of it
pub next_agree : (f g : Free) (c v : ℕ) (s a : Span) → 0 < c → ((n : ℕ) → n < a.deadline → f n ≡ g n) → NextJob f c v s a → NextJob g c v s a
next_agree f g c v s a h agree j =
    let before = spans f a.sample a.deadline c h j.count in
    record {
      deadline = j.deadline;
      sample_is_free = sym (agree a.sample before) ∙ j.sample_is_free;
      count = sym (between_agree f g a.sample a.deadline (λ n l k. agree n k)) ∙ j.count;
      later = j.later;
    }

-- the job after a job is the same t slots later, where the same slots from its sample on are free t
-- slots later
pub next_shift : (f : Free) (c v t : ℕ) (s a s' : Span) → 0 < c → s'.sample ≡ s.sample + t → s'.deadline ≤ a.sample + t → ((n : ℕ) → a.sample ≤ n → n < a.deadline → f (n + t) ≡ f n)
    → NextJob f c v s a → NextJob f c v s' (record { sample = a.sample + t; deadline = a.deadline + t })
next_shift f c v t s a s' h e g again j =
    let before = spans f a.sample a.deadline c h j.count in
    let due = j.deadline in
    record {
      deadline = omega arith;
      sample_is_free = again a.sample (omega arith) before ∙ j.sample_is_free;
      count = between_shift f f a.sample a.deadline t again ∙ j.count;
      later = g;
    }

-- a row has one first job only
pub first_one : (f : Free) (c d e : ℕ) → FirstJob f c d → FirstJob f c e → d ≡ e
first_one f c d e x y =
    let count : free_between f 0 (x.last + 1) ≡ free_between f 0 (y.last + 1) =
    ap (free_between f 0) (sym x.past_last) ∙ x.count ∙ sym y.count ∙ ap (free_between f 0) y.past_last in
    let same : x.last ≡ y.last = same_end f x.last y.last x.last_is_free y.last_is_free count in
    x.past_last ∙ ap (λ (n : ℕ). n + 1) same ∙ sym y.past_last

-- what is free past its deadline says nothing of it
pub first_agree : (f g : Free) (c d : ℕ) → ((n : ℕ) → n < d → f n ≡ g n) → FirstJob f c d → FirstJob g c d
first_agree f g c d agree x =
    let past = x.past_last in
    record {
      last = x.last;
      past_last = x.past_last;
      last_is_free = sym (agree x.last (omega arith)) ∙ x.last_is_free;
      count = sym (between_agree f g 0 d (λ n l k. agree n k)) ∙ x.count;
    }
