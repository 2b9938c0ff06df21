-- An answer for a slot, a course: the endless sequence of a policy's answers, and what a kind of
-- policy means.
use Rattle.std.specs.Fn.{iterate}
use Rattle.std.specs.Prelude.{◌≡◌, ℕ, zero, suc, ◌+◌, ◌/◌, ◌%◌, ◌^◌, Bool, true, ◌&&◌, ◌==◌}

-- the rows to sample as a mask, row k standing for 2^(k - 1), and the row to run, or 0
abbrev pub Answer : Type 0
Answer = ℕ × ℕ

-- row k + 1 is among the rows of a mask
abbrev pub names : ℕ → ℕ → Bool
names m k = (m / 2 ^ k) % 2 == 1

-- the answer of every slot, counted from the present one
abbrev pub Course : Type 0
Course = ℕ → Answer

-- what a kind of policy means, over the positions at which its policies stand
pub record Meaning (Pos : Type 0) : Type 0 where
  -- the answer that a policy at a position gives n slots ahead, for every n
  pub course : Pos → Course
  -- where a step leads from a position: always to the same one
  pub next : Pos → Pos
  -- what a comparison of two positions says: always the same
  pub alike : Pos → Pos → Bool
  -- a step moves the course on by one
  pub onward : (p : Pos) (n : ℕ) → course (next p) n ≡ course p (n + 1)
  -- a yes means that both courses agree at every n
  pub agree : (p q : Pos) → alike p q ≡ true → (n : ℕ) → course p n ≡ course q n

abbrev pub same_answer : Answer → Answer → Bool
same_answer a b = a.0 == b.0 && a.1 == b.1

-- two courses give the same answers in the slots below n
abbrev pub agree_for : Course → Course → ℕ → Bool
agree_for a b zero = true
agree_for a b (suc n) = agree_for a b n && same_answer (a n) (b n)

-- what a stepping thing shows n steps ahead
abbrev pub ahead : {S : Type 0} → (S → S) → (S → Answer) → S → Course
ahead f shows s n = shows (iterate f n s)
