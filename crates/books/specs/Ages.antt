-- What the age of a row means, for books, told by the answers of a course alone.
-- The law of ages for an operator is the board's (crates/board/specs/Ages.antt), over calls and
-- replies: read that one first.
use Rattle.std.specs.Prelude.{◌≡◌, ℕ, zero, suc, ◌+◌, ◌<◌, ◌≤◌, true, if◌then◌else◌, ◌&&◌, List, length, None, MatchBool, ◌==◌, nat_le, slice_index_or}
use Rattle.policy.specs.Course.{Course, names}
use Rattle.books.specs.declared.row.Row.{Row}
use Rattle.books.specs.Rows.{blank_row}
use Rattle.books.specs.Slots.{books_at, fault_at}

-- slot s samples row k + 1
abbrev pub Samples : Course → ℕ → ℕ → Type 0
Samples c k s = names (c s).0 k ≡ true

-- how many slots run row k + 1, from slot s to the one that ends at instant t
abbrev pub run_count : Course → ℕ → ℕ → ℕ → ℕ
run_count c k s zero = 0
run_count c k s (suc t) = run_count c k s t + (if nat_le s t && (c t).1 == k + 1 then 1 else 0)

-- at instant n no sample of row k + 1 taken from slot s on has had its w slots of work
abbrev pub Unfinished : Course → ℕ → ℕ → ℕ → ℕ → Type 0
Unfinished c k w s n = (u : ℕ) → s ≤ u → u < n → Samples c k u → run_count c k u n < w

-- at instant n the value on show of row k + 1, whose jobs take w slots, was sampled `age` slots
-- ago: from its sample to its finish exactly w slots ran the row, the last of them the finish, and
-- no later sample has been finished
pub record ShownSince (c : Course) (k w n age : ℕ) : Type 0 where
  pub sample : ℕ
  pub ago : sample + age ≡ n
  pub sampled : Samples c k sample
  pub finish : ℕ
  pub after : sample ≤ finish
  pub before : finish < n
  pub last : (c finish).1 ≡ k + 1
  pub work : run_count c k sample (finish + 1) ≡ w
  pub latest : Unfinished c k w (sample + 1) n

-- at instant n a row k + 1 that came on at instant 0 has the age of its value or, with no value on
-- show, n
abbrev pub AgeMeans : Course → ℕ → ℕ → Row → Type 0
AgeMeans c k n r =
    MatchBool r.shown (ShownSince c k r.reading.work n r.age)
    ((r.age ≡ n) × Unfinished c k r.reading.work 0 n)

-- along any run without a fault, of any course, ages mean that at every instant
abbrev pub AgesCounted : List Row → Type 0
AgesCounted rs =
    (c : Course) (n : ℕ) → ((m : ℕ) → m < n → fault_at c rs m ≡ None)
    → (k : ℕ) → k < length rs → AgeMeans c k n (slice_index_or (books_at c rs n) k blank_row)

-- under equal answers both books stay equal, and so do their faults
abbrev pub StayEqual : List Row → List Row → Type 0
StayEqual rs qs =
    (c d : Course) → ((n : ℕ) → c n ≡ d n) → (n : ℕ)
    → (books_at c rs n ≡ books_at d qs n) × (fault_at c rs n ≡ fault_at d qs n)
