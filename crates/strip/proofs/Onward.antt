-- Jobs that go on by the rules, and come again some slots later.
use Rattle.std.proofs.Common.{◌≡◌, ℕ, zero, suc, ◌+◌, ◌-◌, ◌<◌, ◌≤◌, refl, ap, sym, ◌∙◌, subst, inl, inr, add-one, arith}
use Rattle.std.proofs.lemmas.Bool.{cases_lt}
use Rattle.repeat.specs.Marks.{after}
use Rattle.deferral.specs.Free.{Free, free_between, last_free}
use Rattle.deferral.specs.Jobs.{NextJob}
use Rattle.deferral.specs.Laying.{next_span}
use Rattle.deferral.specs.declared.span.Span.{Span}
use Rattle.deferral.proofs.Counting.{between_part, earliest_one, last_free_is}
use Rattle.deferral.proofs.Rules.{next_earliest, next_shift, span_is}

-- the jobs from a first one on, each by the rules after the one before
pub job_at : Free → (c v : ℕ) → Span → ℕ → Span
job_at f c v s j = after (next_span f c v) j s

-- a job after another can only be the next span
next_span_is : (f : Free) (c v : ℕ) (s a : Span) → 0 < c → NextJob f c v s a → next_span f c v s ≡ a
next_span_is f c v s a h x =
    let one = next_earliest f c v s a h x in
    let due = x.deadline in
    let enough : c ≤ free_between f 0 a.deadline = omega (arith, between_part f 0 a.sample a.deadline a.deadline (omega arith) (omega arith), x.count) in
    let last = last_free_is f a.deadline c h enough in
    let same = earliest_one f c a.deadline (last_free f a.deadline c) a.sample last one in
    span_is (next_span f c v s) a (ap (λ (d : ℕ). last_free f d c) (sym due) ∙ same) (sym due)

-- each job leaves one only that can come after it
pub record Fixed (f : Free) (c v : ℕ) (job : ℕ → Span) : Type 0 where
  pub next : (j : ℕ) (a : Span) → NextJob f c v (job j) a → job (j + 1) ≡ a

-- so it is with the jobs from a first one on
pub jobs_fixed : (f : Free) (c v : ℕ) (s : Span) → 0 < c → Fixed f c v (job_at f c v s)
unfolding job_at
jobs_fixed f c v s h = record { next = λ j a x. rw add-one (next_span_is f c v (job_at f c v s j) a h x) }

-- job 0 is the first one
pub job_first : (f : Free) (c v : ℕ) (s : Span) → job_at f c v s 0 ≡ s
unfolding job_at
job_first f c v s = refl

-- the job after job j obeys the rules
abbrev pub Follows : Free → (c v : ℕ) → (ℕ → Span) → ℕ → Type 0
Follows f c v job j = NextJob f c v (job j) (job (j + 1))

-- where job 0 is known, the others are those that obey the rules
pub known : (f : Free) (c v : ℕ) (job spans : ℕ → Span) (last : ℕ) → Fixed f c v job → job 0 ≡ spans 0 → ((j : ℕ) → j + 1 ≤ last → Follows f c v spans j) → (j : ℕ) → j ≤ last → job j ≡ spans j
known f c v job spans last fixed first follows zero h = first
known f c v job spans last fixed first follows (suc j) h =
    let before = known f c v job spans last fixed first follows j (omega arith) in
    let rule : NextJob f c v (job j) (spans (j + 1)) = rw before (follows j (omega arith)) in
    subst (λ (x : ℕ). job x ≡ spans x) (add-one j) (fixed.next j (spans (j + 1)) rule)

-- a job that comes again t slots later with the one after it does so with the one after that: past
-- a mark m the same slots are free t slots later
step : (f : Free) (c v m t : ℕ) (a a' a'' b b' : Span) → 0 < c → ((n : ℕ) → m ≤ n → f (n + t) ≡ f n) → NextJob f c v a a' → NextJob f c v a' a'' → NextJob f c v b b' → b.sample ≡ a.sample + t → b'.sample ≡ a'.sample + t → m ≤ a'.deadline
    → NextJob f c v b' (record { sample = a''.sample + t; deadline = a''.deadline + t })
step f c v m t a a' a'' b b' some again x y z e g h =
    let due = x.deadline in
    let due_again = z.deadline in
    let later = y.later in
    next_shift f c v t a' a'' b' some g (omega arith) (λ n k l. again n (omega arith)) y

-- the job after job y is the one that obeys the rules
pub fixed_follows : (f : Free) (c v : ℕ) (job : ℕ → Span) (y : ℕ) (a : Span) → Fixed f c v job → NextJob f c v (job y) a → Follows f c v job y
fixed_follows f c v job y a fixed x = subst (λ (s : Span). NextJob f c v (job y) s) (sym (fixed.next y a x)) x

-- the jobs from job i on come again t slots later, as the q-th after them
pub record Apart (f : Free) (c v : ℕ) (job : ℕ → Span) (m t i q : ℕ) : Type 0 where
  pub some : 0 < q
  pub again : (n : ℕ) → m ≤ n → f (n + t) ≡ f n
  pub follows : (y : ℕ) → y ≤ i + q → Follows f c v job y
  pub same : (job (i + q)).sample ≡ (job i).sample + t
  pub same_next : (job (i + q + 1)).sample ≡ (job (i + 1)).sample + t
  pub past : m ≤ (job (i + 1)).deadline

-- this is so up to job a
record Along (f : Free) (c v : ℕ) (job : ℕ → Span) (m t i q a : ℕ) : Type 0 where
  follows : (y : ℕ) → y ≤ a + q → Follows f c v job y
  same : (job (a + q)).sample ≡ (job a).sample + t
  same_next : (job (a + q + 1)).sample ≡ (job (a + 1)).sample + t
  past : m ≤ (job (a + 1)).deadline

-- a span lies t slots after another
pub record Later (a : Span) (t : ℕ) (b : Span) : Type 0 where
  pub sample : b.sample ≡ a.sample + t
  pub deadline : b.deadline ≡ a.deadline + t

module _ (f : Free) (c v : ℕ) (job : ℕ → Span) (m t i q : ℕ) (some : 0 < c) (fixed : Fixed f c v job) (apart : Apart f c v job m t i q) where
  -- the next job but one after job a, q jobs on
  again_after : (a : ℕ) → Along f c v job m t i q a → NextJob f c v (job (a + q + 1)) (record { sample = (job (a + 2)).sample + t; deadline = (job (a + 2)).deadline + t })
  again_after a w =
      let next : Follows f c v job (a + 1) = w.follows (a + 1) (omega (arith, apart.some)) in
      let place : a + 1 + 1 ≡ a + 2 = omega arith in
      let next' : NextJob f c v (job (a + 1)) (job (a + 2)) = subst (λ (y : ℕ). NextJob f c v (job (a + 1)) (job y)) place next in
      step f c v m t (job a) (job (a + 1)) (job (a + 2)) (job (a + q)) (job (a + q + 1)) some apart.again (w.follows a (omega arith)) next' (w.follows (a + q) (omega arith)) w.same w.same_next w.past

  -- so what holds up to job a holds for one job more
  along_more : (a : ℕ) → Along f c v job m t i q a → Along f c v job m t i q (a + 1)
  along_more a w =
      let x = again_after a w in
      let rule = fixed_follows f c v job (a + q + 1) _ fixed x in
      let last = fixed.next (a + q + 1) _ x in
      let place : a + 1 + q ≡ a + q + 1 = omega arith in
      let next : a + 1 + 1 ≡ a + 2 = omega arith in
      let ahead = (w.follows (a + 1) (omega (arith, apart.some))).later in
      let long = next_earliest f c v (job (a + 1)) (job (a + 1 + 1)) some (w.follows (a + 1) (omega (arith, apart.some))) in
      record {
        follows = λ y h. elim (cases_lt y (a + q + 1)) [
          | inl less ↦ w.follows y (omega arith)
          | inr more ↦ let e : a + q + 1 ≡ y = omega arith in subst (Follows f c v job) e rule
        ];
        same = rw place w.same_next;
        same_next = rw (place, next) (ap (λ (s : Span). s.sample) last);
        past = omega (arith, w.past, ahead, long.before);
      }

  -- and for any number of them
  along : (x : ℕ) → Along f c v job m t i q (i + x)
  along zero =
      let z : i + 0 ≡ i = omega arith in
      rw z (record { follows = apart.follows; same = apart.same; same_next = apart.same_next; past = apart.past })
  along (suc x) = let e : i + suc x ≡ i + x + 1 = omega arith in rw e (along_more (i + x) (along x))

  -- all jobs go on by the rules
  pub goes_on : (y : ℕ) → Follows f c v job y
  goes_on y = (along y).follows y (omega arith)

  -- and those past job i come again, numbered from it
  comes_at : (x : ℕ) → Later (job (i + x + 1)) t (job (i + x + q + 1))
  comes_at x =
      let w = along x in
      let due = (w.follows (i + x) (omega arith)).deadline in
      let due_again = (w.follows (i + x + q) (omega arith)).deadline in
      record { sample = w.same_next; deadline = omega (arith, due, due_again, w.same) }

  -- or by their own numbers
  pub comes_again : (y : ℕ) → i < y → Later (job y) t (job (y + q))
  comes_again y h =
      let e : i + (y - (i + 1)) + 1 ≡ y = omega arith in
      let g : i + (y - (i + 1)) + q + 1 ≡ y + q = omega arith in
      subst (λ (z : ℕ). Later (job y) t (job z)) g (subst (λ (z : ℕ). Later (job z) t (job (i + (y - (i + 1)) + q + 1))) e (comes_at (y - (i + 1))))

  -- no job begins before the deadline of a job x + 1 before it
  in_order : (y x : ℕ) → (job y).deadline ≤ (job (y + x + 1)).sample
  in_order y zero = let e : y + 0 + 1 ≡ y + 1 = omega arith in rw e ((goes_on y).later)
  in_order y (suc x) =
      let e : y + suc x + 1 ≡ y + x + 1 + 1 = omega arith in
      let long = next_earliest f c v (job (y + x)) (job (y + x + 1)) some (goes_on (y + x)) in
      rw e (omega (arith, in_order y x, long.before, (goes_on (y + x + 1)).later))

  -- nor before that of any earlier one
  pub ordered : (y z : ℕ) → y < z → (job y).deadline ≤ (job z).sample
  ordered y z h = let e : y + (z - (y + 1)) + 1 ≡ z = omega arith in subst (λ (x : ℕ). (job y).deadline ≤ (job x).sample) e (in_order y (z - (y + 1)))
