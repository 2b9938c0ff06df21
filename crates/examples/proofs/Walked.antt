-- The walks of the examples, computed.
use Rattle.std.proofs.Common.{◌≡◌, ℕ, List, [], ◌∷◌, None, Ok, refl, subst}
use Rattle.readings.specs.declared.reading.Reading.{Reading}
use Rattle.planner.specs.Periods.{half_half, more_less}
use Rattle.planner.specs.declared.timing.Timing.{Timing}
use Rattle.periodic.specs.Meanings.{periodic_meaning}
use Rattle.periodic.specs.Phases.{periodic_course}
use Rattle.books.specs.Slots.{fault_at}
use Rattle.walk.specs.Walks.{Walks, granted, last_instant, refused}
use Rattle.walk.proofs.Looking.{doubted, granted_faultless, walk_computes, walk_within, walks_computed}
use Rattle.examples.specs.Kinds.{inactive_meaning, never_alike_meaning}
use Rattle.examples.specs.Lists.{MoreLessGives, first_phases, new_books, readings_x, readings_y}

abbrev pub timing : (work period : ℕ) → Timing
timing work period = record { work = work; period = period }

-- the timings that More-Less gives to X
abbrev pub timings_x : List Timing
timings_x = timing 1 4 ∷ timing 2 7 ∷ timing 2 14 ∷ []

-- and to Y
abbrev pub timings_y : List Timing
timings_y = timing 2 6 ∷ timing 2 6 ∷ timing 2 6 ∷ []

pub given_x : more_less readings_x ≡ Ok timings_x
given_x = refl

pub given_y : more_less readings_y ≡ Ok timings_y
given_y = refl

-- the timings that More-Less gives are known
pub known : (ds : List Reading) (us : List Timing) → more_less ds ≡ Ok us
    → (P : List Timing → Type 0) → MoreLessGives ds P → P us
known ds us gives P g =
    let given = g.1.0 in
    let same : g.0 ≡ us = cc in
    subst P same g.1.1

half_half_x : walk_within periodic_meaning last_instant (first_phases (half_half readings_x))
    (new_books readings_x) ≡ refused (11, 10 ∷ 3 ∷ [])
unfolding walk_computes
half_half_x = refl

more_less_x : walk_within periodic_meaning last_instant (first_phases timings_x)
    (new_books readings_x) ≡ granted 31 28
unfolding walk_computes
more_less_x = refl

more_less_y : walk_within periodic_meaning last_instant (first_phases timings_y)
    (new_books readings_y) ≡ granted 7 6
unfolding walk_computes
more_less_y = refl

inactive_x : walk_within inactive_meaning last_instant tt (new_books readings_x)
    ≡ refused (12, 5 ∷ 1 ∷ [])
unfolding walk_computes
inactive_x = refl

pub half_half_walks : Walks periodic_meaning (first_phases (half_half readings_x))
    (new_books readings_x) (refused (11, 10 ∷ 3 ∷ []))
half_half_walks =
    walks_computed periodic_meaning (first_phases (half_half readings_x)) (new_books readings_x) _
    half_half_x

pub walks_x : Walks periodic_meaning (first_phases timings_x) (new_books readings_x) (granted 31 28)
walks_x =
    walks_computed periodic_meaning (first_phases timings_x) (new_books readings_x) _ more_less_x

pub walks_y : Walks periodic_meaning (first_phases timings_y) (new_books readings_y) (granted 7 6)
walks_y =
    walks_computed periodic_meaning (first_phases timings_y) (new_books readings_y) _ more_less_y

pub inactive_walks : Walks inactive_meaning tt (new_books readings_x) (refused (12, 5 ∷ 1 ∷ []))
inactive_walks = walks_computed inactive_meaning tt (new_books readings_x) _ inactive_x

-- both walks by More-Less were granted, so that no slot ever has a fault
pub faultless_x : (n : ℕ)
    → fault_at (periodic_course (first_phases timings_x)) (new_books readings_x) n ≡ None
faultless_x =
    granted_faultless periodic_meaning (first_phases timings_x) (new_books readings_x) 31 28 walks_x
    (λ n. refl)

pub faultless_y : (n : ℕ)
    → fault_at (periodic_course (first_phases timings_y)) (new_books readings_y) n ≡ None
faultless_y =
    granted_faultless periodic_meaning (first_phases timings_y) (new_books readings_y) 7 6 walks_y
    (λ n. refl)

-- no slot up to instant 32,767 is computed: the walk of X by More-Less was granted, which means for
-- ever
pub never_alike_walks : Walks (never_alike_meaning periodic_meaning) (first_phases timings_x)
    (new_books readings_x) (refused (13, []))
never_alike_walks =
    doubted periodic_meaning (first_phases timings_x) (new_books readings_x) 31 28 walks_x
    (λ n. refl) (never_alike_meaning periodic_meaning).agree
