-- The strips of the examples, computed.
use Rattle.std.proofs.Common.{◌≡◌, ℕ, ◌≤◌, true, List, [], ◌∷◌, get_or, Ok, Err, refl, lit<, lit≤}
use Rattle.policy.specs.Course.{Course, names}
use Rattle.readings.specs.Firsts.{first_of}
use Rattle.repeat.specs.Looking.{look}
use Rattle.strip.specs.WellClosed.{WellClosed}
use Rattle.strip.specs.Meanings.{strip_meaning}
use Rattle.strip.specs.Positions.{strip_course}
use Rattle.strip.specs.Strips.{Strip, laid_strip, start_of}
use Rattle.walk.specs.Walks.{Walks, granted, last_instant, refused}
use Rattle.walk.proofs.Looking.{walk_computes, walk_within, walks_computed}
use Rattle.examples.specs.Lists.{new_books, readings_s, readings_t, readings_x, readings_z}
use Rattle.examples.specs.StripRules.{outside}
use Rattle.examples.specs.Strips.{SampleAt, SamplesGive, samples_before}
use Rattle.examples.proofs.Gives.{each_below}
use Rattle.examples.specs.declared.ending.Ending.TheVariants.{Slots}

-- the slots of X on 89
abbrev slots_x : List ℕ
slots_x =
    1 ∷ 2 ∷ 2 ∷ 3 ∷ 1 ∷ 3 ∷ 0 ∷ 2 ∷ 1 ∷ 2 ∷ 0 ∷ 0 ∷ 1 ∷ 0 ∷ 2 ∷ 2 ∷ 1 ∷ 0 ∷ 3 ∷ 3 ∷ 1 ∷ 0 ∷ 2 ∷ 2
    ∷ 1 ∷ 0 ∷ 0 ∷ 0 ∷ 1 ∷ 0 ∷ 2 ∷ 2 ∷ 1 ∷ 0 ∷ 0 ∷ 3 ∷ 1 ∷ 3 ∷ 2 ∷ 2 ∷ 1 ∷ 0 ∷ 0 ∷ 0 ∷ 1 ∷ 0 ∷ 2
    ∷ 2 ∷ 1 ∷ 0 ∷ 0 ∷ 3 ∷ 1 ∷ 3 ∷ 2 ∷ 2 ∷ 1 ∷ 0 ∷ 0 ∷ 0 ∷ 1 ∷ 0 ∷ 2 ∷ 2 ∷ 1 ∷ 0 ∷ 0 ∷ 3 ∷ 1 ∷ 3
    ∷ 2 ∷ 2 ∷ 1 ∷ 0 ∷ 0 ∷ 0 ∷ 1 ∷ 0 ∷ 2 ∷ 2 ∷ 1 ∷ 0 ∷ 0 ∷ 3 ∷ 1 ∷ 3 ∷ 2 ∷ 2 ∷ 1 ∷ []

-- and of Z on 30
abbrev slots_z : List ℕ
slots_z =
    1 ∷ 1 ∷ 2 ∷ 2 ∷ 1 ∷ 1 ∷ 2 ∷ 2 ∷ 1 ∷ 1 ∷ 2 ∷ 2 ∷ 1 ∷ 1 ∷ 0 ∷ 2 ∷ 1 ∷ 1 ∷ 2 ∷ 2 ∷ 1 ∷ 1 ∷ 0 ∷ 2
    ∷ 1 ∷ 1 ∷ 2 ∷ 2 ∷ 1 ∷ 1 ∷ []

abbrev pub strip_x : Strip
strip_x = record { rows = readings_x; slots = slots_x; first = 63; last = 78 }

abbrev pub strip_z : Strip
strip_z = record { rows = readings_z; slots = slots_z; first = 15; last = 22 }

pub made_x : laid_strip readings_x 89 ≡ Ok strip_x
unfolding look first_of
made_x = refl

pub not_made_x : laid_strip readings_x 88 ≡ Err (9, [])
unfolding look first_of
not_made_x = refl

pub made_z : laid_strip readings_z 30 ≡ Ok strip_z
unfolding look first_of
made_z = refl

pub not_made_z : laid_strip readings_z 29 ≡ Err (9, [])
unfolding look first_of
not_made_z = refl

pub not_made_t : laid_strip readings_t 88 ≡ Err (8, 3 ∷ [])
unfolding look first_of
not_made_t = refl

more_x : walk_within strip_meaning last_instant (start_of strip_x) (new_books readings_x)
    ≡ granted 63 16
unfolding walk_computes
more_x = refl

outside_s : walk_within strip_meaning last_instant (start_of outside) (new_books readings_s)
    ≡ refused (12, 2 ∷ 1 ∷ [])
unfolding walk_computes
outside_s = refl

pub strip_x_walks : Walks strip_meaning (start_of strip_x) (new_books readings_x) (granted 63 16)
strip_x_walks =
    walks_computed strip_meaning (start_of strip_x) (new_books readings_x) _ more_x

pub outside_walks : Walks strip_meaning (start_of outside) (new_books readings_s) (refused (12, 2 ∷ 1 ∷ []))
outside_walks =
    walks_computed strip_meaning (start_of outside) (new_books readings_s) _ outside_s

-- the strip from outside is one for a row
pub outside_granted : WellClosed 1 outside.slots 4 1 3
outside_granted =
    record {
      some = lit≤ tt;
      few = lit≤ tt;
      room = lit≤ tt;
      from_one = lit≤ tt;
      ordered = lit≤ tt;
      inside = lit< tt;
      named = λ k d. each_below (λ n. get_or outside.slots n d ≤ 1) 4 ((((tt, lit≤ tt), lit≤ tt), lit≤ tt), lit≤ tt) k;
    }

-- the course of a player of X
abbrev pub played_x : Course
played_x = strip_course (start_of strip_x)

at_slot : (k j slot : ℕ) → names (played_x slot).0 k ≡ true → samples_before played_x k slot ≡ j
    → SampleAt played_x k j slot
at_slot k j slot samples before = record { samples = samples; before = before }

-- the slots that sample its row 2
pub samples_two : SamplesGive played_x 1 (Ok (Slots 0 7 14 22 30))
samples_two = (
  at_slot 1 0 0 refl refl,
  at_slot 1 1 7 refl refl,
  at_slot 1 2 14 refl refl,
  at_slot 1 3 22 refl refl,
  at_slot 1 4 30 refl refl,
)

-- and its row 3
pub samples_three : SamplesGive played_x 2 (Ok (Slots 0 18 35 51 67))
samples_three = (
  at_slot 2 0 0 refl refl,
  at_slot 2 1 18 refl refl,
  at_slot 2 2 35 refl refl,
  at_slot 2 3 51 refl refl,
  at_slot 2 4 67 refl refl,
)
