-- A laid strip that closing found to repeat, played in its loop, is the endless schedule of its list.
use Rattle.std.proofs.Common.{◌≡◌, ℕ, ◌+◌, ◌-◌, ◌<◌, ◌≤◌, EachIndex, List, get_or, length, map, sym, subst, arith}
use Rattle.books.specs.Rows.{come_on}
use Rattle.deferral.proofs.Unique.{one_schedule}
use Rattle.deferral.specs.Free.{play_of}
use Rattle.deferral.specs.Laid.{Laid}
use Rattle.deferral.specs.Schedules.{Schedule, runs_of}
use Rattle.policy.specs.Course.{Course}
use Rattle.policy.specs.Policies.{SameCourse}
use Rattle.readings.specs.Ranges.{WellMade, blank}
use Rattle.readings.specs.declared.reading.Reading.{Reading}
use Rattle.strip.proofs.Extended.{extended_in_loop}
use Rattle.strip.proofs.Repeated.{turn_found}
use Rattle.strip.proofs.Sampled.{row_schedule}
use Rattle.strip.specs.Closings.{Repeats}
use Rattle.strip.specs.Plays.{Plays}
use Rattle.walk.specs.Loops.{in_loop}

module _ (rs : List Reading) (well : WellMade rs) (slots : List ℕ) (n limit : ℕ) (laid : Laid rs n slots limit) (mark t : ℕ) (found : Repeats slots limit (map come_on rs) mark t) where
  -- each row has work to do
  works : EachIndex rs (λ k. 0 < (get_or rs k blank).work)
  works k h = (well.works k blank h).0

  module _ (c : Course) (plays : Plays rs slots mark (t - 1) c) where
    -- each slot runs the row of the strip's slot that it is played as
    runs_in_loop : (q : ℕ) → runs_of c q ≡ play_of slots (in_loop mark (t - mark) q)
    runs_in_loop q =
        let below = found.below in
        let length_is : (t - 1) + 1 - mark ≡ t - mark = omega arith in
        subst (λ (l : ℕ). runs_of c q ≡ play_of slots (in_loop mark l q)) length_is (plays.runs q)

    -- it is the endless schedule
    pub scheduled : Schedule rs c
    scheduled =
        record {
          rows = λ k h.
              let jobs = extended_in_loop rs n slots limit mark t (runs_of c) laid found.below found.within works runs_in_loop (turn_found rs well slots n limit laid mark t found) k h in
              row_schedule rs slots mark (t - 1) c plays k h (works k h) jobs.0 jobs.1;
          no_others = λ m. subst (λ (row : ℕ). row ≤ length rs) (sym (runs_in_loop m)) (laid.no_others (in_loop mark (t - mark) m));
          no_other_samples = plays.no_others;
        }

    -- and nothing else is
    pub only_scheduled : (d : Course) → Schedule rs d → SameCourse d c
    only_scheduled d other = one_schedule rs works d c other scheduled
