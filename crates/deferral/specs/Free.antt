-- Free slots: those that no row above has.
use Rattle.std.specs.Prelude.{ℕ, zero, suc, ◌+◌, ◌-◌, Bool, ◌||◌, if◌then◌else◌, List, ◌==◌, nat_lt, slice_index}

-- whether each slot is free
abbrev pub Free : Type 0
Free = ℕ → Bool

-- the row of each slot, counted from 1, or 0 for none
abbrev pub Play : Type 0
Play = ℕ → ℕ

-- free for row k + 1: none of the k rows above has the slot
abbrev pub free_below : Play → ℕ → Free
free_below play k n = play n == 0 || nat_lt k (play n)

-- the slots of a strip; past its end no row has one
abbrev pub play_of : List ℕ → Play
play_of xs n = slice_index xs n

-- free in a strip: byte 0
abbrev pub free_in : List ℕ → Free
free_in xs n = slice_index xs n == 0

-- how many of the n slots from slot a on are free
abbrev pub free_from : Free → ℕ → ℕ → ℕ
free_from free a zero = 0
free_from free a (suc n) = free_from free a n + (if free (a + n) then 1 else 0)

-- how many slots are free from slot a on and before slot b: none where b is not past a
abbrev pub free_between : Free → ℕ → ℕ → ℕ
free_between free a b = free_from free a (b - a)

-- the earliest of the last c free slots before slot d
abbrev pub last_free : Free → ℕ → ℕ → ℕ
last_free free zero c = 0
last_free free (suc d) zero = suc d
last_free free (suc d) (suc c) = if free d then last_free free d c else last_free free d (suc c)
