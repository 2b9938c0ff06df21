-- A laid strip that is played in a loop: the jobs of a row go on for ever.
use Rattle.std.proofs.Common.{◌≡◌, ℕ, zero, suc, ◌+◌, ◌-◌, ◌<◌, ◌≤◌, ◌↔◌, true, ◌||◌, nat_lt, ◌==◌, ap, sym, ◌∙◌, subst, inl, inr, arith}
use Rattle.std.specs.Prelude.{⊤}
use Rattle.std.proofs.lemmas.Bool.{both_ways, cases_lt}
use Rattle.readings.specs.declared.reading.Reading.{Reading}
use Rattle.deferral.specs.Free.{Free, Play, free_below, free_between}
use Rattle.deferral.specs.Jobs.{Jobs, NextJob, takes}
use Rattle.deferral.specs.Laid.{LaidRow}
use Rattle.deferral.specs.declared.span.Span.{Span}
use Rattle.deferral.proofs.Counting.{none_free}
use Rattle.deferral.proofs.Rules.{Takes, first_agree, next_agree, next_earliest, next_shift, takes_from, takes_parts}
use Rattle.strip.proofs.Onward.{Apart, Fixed, Follows, Later, comes_again, fixed_follows, goes_on, job_at, job_first, jobs_fixed, known, ordered}
use Rattle.strip.proofs.Turns.{NextAhead, NextOpen, Turn}

-- a strip s is played on: before slot t as it is, and from a mark m on as it was t - m slots before
pub record PlayedOn (s play : Play) (m t : ℕ) : Type 0 where
  pub some : m < t
  pub before : (n : ℕ) → n < t → play n ≡ s n
  pub again : (n : ℕ) → m ≤ n → play (n + (t - m)) ≡ play n

-- what a laid row leaves is no more than what the row above left
pub leaves_less : (s : Play) (k : ℕ) (r : Reading) (limit left : ℕ) → LaidRow s k r limit left → left ≤ limit
leaves_less s k r limit left laid = omega (arith, laid.leaves, laid.within laid.last (omega arith))

module _ (s play : Play) (k : ℕ) (r : Reading) (limit left m t : ℕ) (some : 0 < r.work) (played : PlayedOn s play m t) (laid : LaidRow s k r limit left) (long : t ≤ left) (agree : (n : ℕ) → n < limit → free_below play k n ≡ free_below s k n) (turn : Turn (free_below s k) laid.spans laid.last m t) where
  -- what is free for the row along the play
  abbrev f : Free
  f = free_below play k

  -- and in the strip
  abbrev g : Free
  g = free_below s k

  -- the jobs that go on from the first that is laid
  abbrev pub job : ℕ → Span
  job = job_at f r.work r.validity (laid.spans 0)

  -- each fixed by the one before
  fixed : Fixed f r.work r.validity job
  fixed = jobs_fixed f r.work r.validity (laid.spans 0) some

  -- past the mark what is free comes again
  f_again : (n : ℕ) → m ≤ n → f (n + (t - m)) ≡ f n
  f_again n h = ap (λ (x : ℕ). x == 0 || nat_lt k x) (played.again n h)

  -- below the limit the laid jobs obey the rules with what is free along the play
  laid_follows : (j : ℕ) → j + 1 ≤ laid.last → Follows f r.work r.validity laid.spans j
  laid_follows j h =
      let below = laid.within (j + 1) h in
      next_agree g f r.work r.validity (laid.spans j) (laid.spans (j + 1)) some (λ n l. sym (agree n (omega arith))) (laid.jobs.next j h)

  -- so they are the first of the jobs that go on
  laid_job : (j : ℕ) → j ≤ laid.last → job j ≡ laid.spans j
  laid_job = known f r.work r.validity job laid.spans laid.last fixed (job_first f r.work r.validity (laid.spans 0)) laid_follows

  -- where a laid job has no free slot from slot a on, it ends by the next slot that is free
  ends_by : (a x n : ℕ) → x ≤ laid.last → free_between g a (laid.spans x).deadline ≡ 0 → f n ≡ true → a ≤ n → (laid.spans x).deadline ≤ n
  ends_by a x n h none free from =
      elim (cases_lt n (laid.spans x).deadline) [
        | inr there ↦ there
        | inl less ↦
            let below = laid.within x h in
            let taken = agree n (omega arith) ∙ none_free g a (laid.spans x).deadline n none from less in
            absurd (both_ways _ taken free)
      ]

  -- the last job that is done by the mark
  abbrev i : ℕ
  i = turn.i

  -- the last job that is done by slot t
  abbrev j : ℕ
  j = turn.j

  -- what the job after the last one done comes to, at the mark and t - m slots later
  record AtTurn : Type 0 where
    follows : Follows f r.work r.validity job j
    same : (job (j + 1)).sample ≡ (job (i + 1)).sample + (t - m)
    past : m ≤ (job (i + 1)).deadline

  -- where it is sampled at the mark or past it
  turn_ahead : NextAhead laid.spans laid.last m t i j → AtTurn
  turn_ahead w =
      let h : i + 1 ≤ laid.last = omega arith in
      let a : Span = laid.spans (i + 1) in
      let x = laid_follows i h in
      let b = next_earliest f r.work r.validity (laid.spans i) a some x in
      let free : f (a.sample + (t - m)) ≡ true = f_again a.sample (omega arith) ∙ b.free in
      let done = ends_by t j (a.sample + (t - m)) (omega arith) turn.done_again free (omega (arith, played.some)) in
      let here = laid_job j turn.laid in
      let next = laid_job (i + 1) h in
      let y = next_shift f r.work r.validity (t - m) (laid.spans i) a (laid.spans j) some (omega (arith, played.some)) done (λ n l _. f_again n (omega arith)) x in
      let z : NextJob f r.work r.validity (job j) (record { sample = a.sample + (t - m); deadline = a.deadline + (t - m) }) = rw here y in
      record {
        follows = fixed_follows f r.work r.validity job j _ fixed z;
        same = ap (λ (x : Span). x.sample) (fixed.next j _ z) ∙ ap (λ (x : Span). x.sample + (t - m)) (sym next);
        past = rw next (omega (arith, b.before));
      }

  -- where it is open at the mark
  turn_open : NextOpen laid.spans laid.last m t i j → AtTurn
  turn_open w =
      let here = laid_job j turn.laid in
      let again = laid_job (j + 1) w.laid in
      let next = laid_job (i + 1) (omega arith) in
      let x = laid_follows j w.laid in
      record {
        follows = rw (here, again) x;
        same = rw (again, next) (omega (arith, played.some));
        past = rw next (omega arith);
      }

  -- one or the other holds
  at_turn : AtTurn
  at_turn = elim turn.next [ inl w ↦ turn_ahead w | inr w ↦ turn_open w ]

  -- so the jobs come again
  apart : Apart f r.work r.validity job m (t - m) i (j - i)
  apart =
      let w = at_turn in
      let e : i + (j - i) ≡ j = omega arith in
      let here = laid_job j turn.laid in
      let before = laid_job i (omega arith) in
      record {
        some = omega arith;
        again = f_again;
        follows = λ y h. elim (cases_lt y j) [
          | inl less ↦
              let first = laid_job y (omega arith) in
              let second = laid_job (y + 1) (omega arith) in
              rw (first, second) (laid_follows y (omega arith))
          | inr more ↦ let same : j ≡ y = omega arith in subst (Follows f r.work r.validity job) same w.follows
        ];
        same = rw (e, here, before) (omega (arith, played.some));
        same_next = rw e w.same;
        past = w.past;
      }

  -- slot n runs the row where a job takes it, and nowhere else
  abbrev Runs : ℕ → Type 0
  Runs n = (play n ≡ k + 1) ↔ ((x : ℕ) × (takes f (job x) n ≡ true))

  -- below what the row leaves, the jobs that take slots are those laid
  laid_takes : (n : ℕ) → n < left → (s n ≡ k + 1) ↔ ((x : ℕ) × (takes f (job x) n ≡ true))
  laid_takes n h =
      let below = leaves_less s k r limit left laid in
      let same : f n ≡ g n = agree n (omega arith) in (
        (λ e.
            let w = (laid.jobs.runs n).0 e in
            let p = takes_parts g (laid.spans w.0) n w.2 in
            (w.0, rw (laid_job w.0 w.1) (takes_from f (laid.spans w.0) n (record { free = same ∙ p.free; from = p.from; before = p.before })))),
        (λ w.
            let p = takes_parts f (job w.0) n w.1 in
            elim (cases_lt laid.last w.0) [
              | inl after ↦
                  let past = ordered f r.work r.validity job m (t - m) i (j - i) some fixed apart laid.last w.0 after in
                  let due = ap (λ (x : Span). x.deadline) (laid_job laid.last (omega arith)) in
                  absurd (omega (arith, past, due, laid.leaves, p.from))
              | inr there ↦
                  let here = laid_job w.0 there in
                  (laid.jobs.runs n).1 (w.0, there, takes_from g (laid.spans w.0) n (record { free = sym same ∙ p.free; from = rw here at p.from; before = rw here at p.before }))
            ]),
      )

  -- a job that takes a slot past slot a comes after one that is done by then
  after_done : (a y x n : ℕ) → y ≤ laid.last → (laid.spans y).sample ≤ a → free_between g a (laid.spans y).deadline ≡ 0 → a ≤ n → Takes f (job x) n → y < x
  after_done a y x n h began none from w =
      elim (cases_lt y x) [
        | inl after ↦ after
        | inr before ↦
            let done = ends_by a y n h none w.free from in
            let here = laid_job y h in
            let there = laid_job x (omega arith) in
            elim (cases_lt x y) [
              | inl less ↦
                  let past = ordered f r.work r.validity job m (t - m) i (j - i) some fixed apart x y less in
                  let at : (job y).sample ≡ (laid.spans y).sample = ap (λ (z : Span). z.sample) here in
                  absurd (omega (arith, past, at, w.before))
              | inr more ↦
                  let same : x ≡ y = omega arith in
                  let due : (job x).deadline ≡ (laid.spans y).deadline = rw same (ap (λ (z : Span). z.deadline) here) in
                  absurd (omega (arith, due, w.before))
            ]
      ]

  -- what holds in a slot past the mark holds t - m slots later
  runs_later : (n : ℕ) → m ≤ n → Runs n → Runs (n + (t - m))
  runs_later n h here =
      let q = j - i in
      let free = f_again n h in
      let plays = played.again n h in (
        (λ e.
            let w = here.0 (sym plays ∙ e) in
            let p = takes_parts f (job w.0) n w.1 in
            let after = after_done m i w.0 n (omega arith) turn.began turn.done h p in
            let l = comes_again f r.work r.validity job m (t - m) i q some fixed apart w.0 after in
            (w.0 + q, takes_from f (job (w.0 + q)) (n + (t - m)) (record { free = free ∙ p.free; from = omega (arith, l.sample, p.from); before = omega (arith, l.deadline, p.before) }))),
        (λ w.
            let p = takes_parts f (job w.0) (n + (t - m)) w.1 in
            let after = after_done t j w.0 (n + (t - m)) turn.laid (omega (arith, played.some)) turn.done_again (omega (arith, played.some)) p in
            let e : w.0 - q + q ≡ w.0 = omega arith in
            let l = comes_again f r.work r.validity job m (t - m) i q some fixed apart (w.0 - q) (omega arith) in
            let l' : Later (job (w.0 - q)) (t - m) (job w.0) = subst (λ (x : ℕ). Later (job (w.0 - q)) (t - m) (job x)) e l in
            plays ∙ here.1 (w.0 - q, takes_from f (job (w.0 - q)) n (record { free = sym free ∙ p.free; from = omega (arith, l'.sample, p.from); before = omega (arith, l'.deadline, p.before) }))),
      )

  -- so it holds in all slots before slot b
  runs_below : (b n : ℕ) → n < b → Runs n
  runs_below zero n h = absurd (omega arith)
  runs_below (suc b) n h =
      elim (cases_lt n t) [
        | inl less ↦
            let w = laid_takes n (omega arith) in
            let same = played.before n less in
            ((λ e. w.0 (sym same ∙ e)), (λ x. same ∙ w.1 x))
        | inr past ↦
            let e : n - (t - m) + (t - m) ≡ n = omega (arith, played.some) in
            subst Runs e (runs_later (n - (t - m)) (omega (arith, played.some)) (runs_below b (n - (t - m)) (omega (arith, played.some))))
      ]

  -- and in every slot
  runs : (n : ℕ) → Runs n
  runs n = runs_below (n + 1) n (omega arith)

  -- below what the row leaves, the row runs where it is laid
  pub row_agrees : (n : ℕ) → n < left → (play n ≡ k + 1) ↔ (s n ≡ k + 1)
  row_agrees n h = let w = laid_takes n h in let x = runs n in ((λ e. w.1 (x.0 e)), (λ e. x.1 (w.0 e)))

  -- its jobs go on for ever
  pub row_goes_on : Jobs play k r.work r.validity job (λ j. ⊤)
  row_goes_on =
      let first = job_first f r.work r.validity (laid.spans 0) in
      let below = laid.within 0 (omega arith) in
      let begins = first_agree g f r.work (laid.spans 0).deadline (λ n l. sym (agree n (omega arith))) laid.jobs.first in
      record {
        first_sample = rw first laid.jobs.first_sample;
        first = rw first begins;
        next = λ y _. goes_on f r.work r.validity job m (t - m) i (j - i) some fixed apart y;
        runs = λ n. let x = runs n in ((λ e. let w = x.0 e in (w.0, tt, w.1)), (λ w. x.1 (w.0, w.2)));
      }
