-- What the rules give for the examples that are not walks.
use Rattle.std.proofs.Common.{◌≡◌, ℕ, zero, suc, ◌<◌, ◌≤◌, false, true, List, [], ◌∷◌, length, get_or, None, Some, refl, add-one, arith, lit<, lit≤}
use Rattle.std.proofs.lemmas.Bool.{both_ways}
use borrow.Author.Count.{below_more, below_none}
use Rattle.policy.specs.Course.{Course}
use Rattle.periodic.specs.Phases.{periodic_course}
use Rattle.books.specs.Rows.{blank_row}
use Rattle.books.specs.Slots.{books_at}
use Rattle.books.specs.declared.row.Row.{Row}
use Rattle.readings.specs.Firsts.{first_of}
use Rattle.walk.specs.Crossings.{MayCross}
use Rattle.walk.specs.Finishes.{FirstFinish}
use Rattle.examples.specs.Endings.{CrossingTest, JustValid}
use Rattle.examples.specs.Lists.{first_phases, new_books, readings_x, readings_y}
use Rattle.examples.proofs.Walked.{timings_x, timings_y}

abbrev pub course_x : Course
course_x = periodic_course (first_phases timings_x)

abbrev pub course_y : Course
course_y = periodic_course (first_phases timings_y)

-- P of each number below n, one by one
abbrev pub Each : (ℕ → Type 0) → ℕ → Type 0
Each P zero = Unit {0}
Each P (suc n) = Each P n × P n

pub each_below : (P : ℕ → Type 0) (n : ℕ) → Each P n → (k : ℕ) → k < n → P k
each_below P zero e k l = below_none P k l
each_below P (suc n) (e, h) k l = below_more P n (each_below P n e) h k (rw add-one l)

pub first_x : FirstFinish course_x (new_books readings_x) 0 1
first_x = record { here = refl; not_before = each_below _ 1 (tt, refl) }

pub second_x : FirstFinish course_x (new_books readings_x) 1 3
second_x = record { here = refl; not_before = each_below _ 3 (((tt, refl), refl), refl) }

pub third_x : FirstFinish course_x (new_books readings_x) 2 6
third_x =
    record {
      here = refl;
      not_before = each_below _ 6 ((((((tt, refl), refl), refl), refl), refl), refl);
    }

-- the first finishes of Y
abbrev finishes_y : List ℕ
finishes_y = 2 ∷ 4 ∷ 6 ∷ []

first_y : FirstFinish course_y (new_books readings_y) 0 2
first_y = record { here = refl; not_before = each_below _ 2 ((tt, refl), refl) }

second_y : FirstFinish course_y (new_books readings_y) 1 4
second_y = record { here = refl; not_before = each_below _ 4 ((((tt, refl), refl), refl), refl) }

third_y : FirstFinish course_y (new_books readings_y) 2 6
third_y =
    record {
      here = refl;
      not_before = each_below _ 6 ((((((tt, refl), refl), refl), refl), refl), refl);
    }

finished_y : (k : ℕ) → k < length readings_y
    → FirstFinish course_y (new_books readings_y) k (get_or finishes_y k 0)
finished_y = each_below _ 3 (((tt, first_y), second_y), third_y)

pub age_twelve : JustValid course_y readings_y 11 2 12 (Some 3)
unfolding first_of
age_twelve = record { reached = refl; equal = refl; faultless = refl; shows = refl }

-- row 2 has an open job
not_at_one : MayCross (books_at course_x (new_books readings_x) 1) readings_y finishes_y
    → false ≡ true
not_at_one m = let busy = m.idle 1 blank_row (lit< tt) in cc

pub at_one : CrossingTest course_x readings_x 1 course_y readings_y false
at_one =
    record {
      finishes = finishes_y;
      first = finished_y;
      says = (λ e. absurd (both_ways false refl e), not_at_one);
    }

yes_at_six : MayCross (books_at course_x (new_books readings_x) 6) readings_y finishes_y
yes_at_six =
    record {
      idle = λ k d l.
          let rows : List Row = books_at course_x (new_books readings_x) 6 in
          each_below (λ n. (get_or rows n d).job ≡ None) 3 (((tt, refl), refl), refl) k l;
      in_time = each_below _ 3 (((tt, lit≤ tt), lit≤ tt), lit≤ tt);
    }

pub at_six : CrossingTest course_x readings_x 6 course_y readings_y true
at_six =
    record {
      finishes = finishes_y;
      first = finished_y;
      says = (λ e. yes_at_six, λ m. refl);
    }

-- row 3 would be too old
not_at_seven : MayCross (books_at course_x (new_books readings_x) 7) readings_y finishes_y
    → false ≡ true
not_at_seven m = let late : 13 ≤ 12 = m.in_time 2 (lit< tt) in absurd (omega arith)

pub at_seven : CrossingTest course_x readings_x 7 course_y readings_y false
at_seven =
    record {
      finishes = finishes_y;
      first = finished_y;
      says = (λ e. absurd (both_ways false refl e), not_at_seven);
    }
