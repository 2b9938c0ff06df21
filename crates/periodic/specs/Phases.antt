-- The periodic kind: what it keeps of each row, what it answers, and where a step leads.
use Rattle.std.specs.Prelude.{ℕ, zero, suc, ◌+◌, ◌-◌, ◌*◌, Bool, if◌then◌else◌, ◌&&◌, List, [], ◌∷◌, map, ◌==◌, nat_lt}
use Rattle.std.specs.Cmp.Lexicographic.{pointwise}
use Rattle.policy.specs.Course.{Answer, Course, ahead}
use Rattle.planner.specs.Timing.{blank_timing}
use Rattle.planner.specs.declared.timing.Timing.{Timing}
use Rattle.periodic.specs.declared.phase.Phase.{Phase}

-- a phase with all numbers 0
abbrev pub blank_phase : Phase
blank_phase = record { timing = blank_timing; until = 0; left = 0 }

-- a row at a start: its first sample comes in slot 0
abbrev pub begun : Timing → Phase
begun t = record { timing = t; until = 0; left = 0 }

-- a sample is taken in this slot
abbrev pub due : Phase → Bool
due p = p.until == 0

-- a row once this slot's sample, if one is due, is taken: a sample sets the work left to the work
-- length, and the next one comes a period later
abbrev pub sampled : Phase → Phase
sampled p =
    record p {
      until = if due p then p.timing.period - 1 else p.until - 1;
      left = if due p then p.timing.work else p.left;
    }

-- the rows to sample: 2^(row - 1) for each
abbrev pub mask : List Phase → ℕ
mask [] = 0
mask (p ∷ ps) = (if due p then 1 else 0) + 2 * mask ps

-- a row has work left
abbrev pub works : Phase → Bool
works p = nat_lt 0 p.left

-- a row's number with one row more above it; 0 stays 0
abbrev pub number_below : ℕ → ℕ
number_below zero = zero
number_below (suc n) = suc (suc n)

-- the lowest row with work left, counted from 1, or 0
abbrev pub lowest : List Phase → ℕ
lowest [] = 0
lowest (p ∷ ps) = if works p then 1 else number_below (lowest ps)

-- a row that has run for a slot
abbrev pub worked : Phase → Phase
worked p = record p { left = p.left - 1 }

-- the rows once the lowest row with work left has run for a slot
abbrev pub run_lowest : List Phase → List Phase
run_lowest [] = []
run_lowest (p ∷ ps) = if works p then worked p ∷ ps else p ∷ run_lowest ps

-- the answer of a slot: the samples that are due, and then the lowest row with work left
abbrev pub periodic_answer : List Phase → Answer
periodic_answer ps = (mask ps, lowest (map sampled ps))

-- a slot later
abbrev pub periodic_next : List Phase → List Phase
periodic_next ps = run_lowest (map sampled ps)

-- the answers of all slots, counted from the present one
abbrev pub periodic_course : List Phase → Course
periodic_course = ahead periodic_next periodic_answer

-- both numbers are equal
abbrev pub same_timing : Timing → Timing → Bool
same_timing t u = t.work == u.work && t.period == u.period

-- all numbers kept of a row are equal
abbrev pub same_phase : Phase → Phase → Bool
same_phase p q = same_timing p.timing q.timing && (p.until == q.until && p.left == q.left)

-- all numbers kept are equal, row by row, and there are as many rows
abbrev pub same_phases : List Phase → List Phase → Bool
same_phases = pointwise same_phase
