-- The jobs of a row by deferrable scheduling, in whole slots: the first job takes the first free
-- slots, and each later one the last free slots before its deadline.
use Rattle.std.specs.Prelude.{◌≡◌, ℕ, ◌+◌, ◌≤◌, ◌↔◌, Bool, true, ◌&&◌, nat_le, nat_lt}
use Rattle.deferral.specs.Free.{Free, Play, free_below, free_between}
use Rattle.deferral.specs.declared.span.Span.{Span}

-- a job takes the free slots from its sample on and before its deadline
abbrev pub takes : Free → Span → ℕ → Bool
takes free s n = free n && (nat_le s.sample n && nat_lt n s.deadline)

-- a first job takes the first c free slots: its deadline is the slot past the last of them
pub record FirstJob (free : Free) (c deadline : ℕ) : Type 0 where
  pub last : ℕ
  pub past_last : deadline ≡ last + 1
  pub last_is_free : free last ≡ true
  pub count : free_between free 0 deadline ≡ c

-- the job after one: its deadline comes a validity v after the sample before; it takes the last c
-- free slots before its deadline, none of them before the deadline of the job before, and is
-- sampled at the earliest of them
pub record NextJob (free : Free) (c v : ℕ) (before after : Span) : Type 0 where
  pub deadline : after.deadline ≡ before.sample + v
  pub sample_is_free : free after.sample ≡ true
  pub count : free_between free after.sample after.deadline ≡ c
  pub later : before.deadline ≤ after.sample

-- the jobs of row k + 1, of work length c and validity v, are those whose numbers pass: the first
-- is sampled in slot 0, and the row runs in the slots that they take
pub record Jobs (play : Play) (k c v : ℕ) (spans : ℕ → Span) (Counts : ℕ → Type 0) : Type 0 where
  pub first_sample : (spans 0).sample ≡ 0
  pub first : FirstJob (free_below play k) c (spans 0).deadline
  pub next : (j : ℕ) → Counts (j + 1) → NextJob (free_below play k) c v (spans j) (spans (j + 1))
  pub runs : (n : ℕ)
      → (play n ≡ k + 1)
      ↔ ((j : ℕ) × Counts j × (takes (free_below play k) (spans j) n ≡ true))
