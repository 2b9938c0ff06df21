-- The loop of a plan: from its mark on, answers and books come again every so many slots.
use Rattle.std.specs.Prelude.{◌≡◌, ℕ, ◌+◌, ◌-◌, ◌%◌, ◌<◌, ◌≤◌, if◌then◌else◌, List, nat_lt}
use Rattle.policy.specs.Course.{Course}
use Rattle.books.specs.Slots.{books_at}
use Rattle.books.specs.declared.row.Row.{Row}

-- the slot as which slot n is played: before the mark as itself, and from the mark on as one of the
-- loop's slots, which are mark, mark + 1, .., mark + length - 1
abbrev pub in_loop : (mark length n : ℕ) → ℕ
in_loop mark length n = if nat_lt n mark then n else mark + (n - mark) % length

-- along this course, with books of these rows at slot 0, each slot is played as itself before the
-- mark, and from there on as one of the loop
pub record Loops (c : Course) (rs : List Row) (mark length : ℕ) : Type 0 where
  pub some : 0 < length
  -- the last slot inside the loop, mark + length - 1, is played as itself
  pub last_inside : (n : ℕ) → n + 1 ≡ mark + length → in_loop mark length n ≡ n
  -- the first slot outside it is played as the mark
  pub first_outside : (n : ℕ) → n ≡ mark + length → in_loop mark length n ≡ mark
  pub answers : (n : ℕ) → mark ≤ n → c (n + length) ≡ c n
  pub books : (n : ℕ) → mark ≤ n → books_at c rs (n + length) ≡ books_at c rs n
  pub played_answer : (n : ℕ) → c n ≡ c (in_loop mark length n)
  pub played_books : (n : ℕ) → books_at c rs n ≡ books_at c rs (in_loop mark length n)
