-- A strip that was laid, closed with the loop that closing found.
use Rattle.std.proofs.Common.{◌≡◌, ℕ, ◌+◌, ◌-◌, ◌≤◌, List, Ok, length, map, take, refl, subst, arith}
use Rattle.std.proofs.lemmas.List.{length-take-le}
use Rattle.readings.specs.declared.reading.Reading.{Reading}
use Rattle.policy.specs.Course.{Course}
use Rattle.policy.specs.Policies.{SameCourse}
use Rattle.books.specs.Rows.{come_on}
use Rattle.deferral.specs.Laid.{Laid}
use Rattle.deferral.specs.Laying.{lay}
use Rattle.deferral.specs.Schedules.{Schedule}
use Rattle.deferral.proofs.LaidRows.{laid}
use Rattle.walk.specs.Walks.{Walks, granted}
use Rattle.strip.specs.Closings.{Repeats}
use Rattle.strip.specs.WellClosed.{WellClosed}
use Rattle.strip.specs.LaidIn.{LaidIn}
use Rattle.strip.specs.Meanings.{strip_meaning}
use Rattle.strip.specs.Plays.{Plays}
use Rattle.strip.specs.Positions.{start_at, strip_course}
use Rattle.strip.specs.Sames.{position_to_same}
use Rattle.strip.proofs.Found.{limit_fits, slots_few, slots_named}
use Rattle.strip.proofs.Granted.{closed_granted}
use Rattle.strip.proofs.LoopLaw.{only_scheduled, scheduled}
use Rattle.strip.proofs.Played.{well_closed_plays}
use Rattle.strip.proofs.Repeated.{mark_past}

module _ (rs : List Reading) (memory : List ℕ) (n limit : ℕ) (law : LaidIn rs memory n limit) (mark t : ℕ) (found : Repeats (take n memory) limit (map come_on rs) mark t) where
  -- the slots
  abbrev slots : List ℕ
  slots = take n memory

  long : length slots ≡ n
  long = length-take-le n memory law.room

  made : lay rs (length slots) ≡ Ok (slots, limit)
  made = rw long law.laid

  laid_on : Laid rs n slots limit
  laid_on = laid rs law.list.works n slots limit law.laid

  fits : limit ≤ length slots
  fits = limit_fits rs law.list slots limit made

  few : length slots ≤ 32767
  few = slots_few rs law.list slots limit made

  -- they make a closed strip with the loop
  pub loop_closed : WellClosed (length rs) memory n mark (t - 1)
  loop_closed =
      let past = mark_past rs law.list slots n limit laid_on mark t found in
      let below = found.below in
      let within = found.within in
      let all = fits in
      let short = few in
      let same = long in
      record {
        some = omega arith;
        few = omega arith;
        room = law.room;
        from_one = past;
        ordered = omega arith;
        inside = omega arith;
        named = slots_named rs law.list slots limit made;
      }

  -- the course of a player of it
  abbrev loop : Course
  loop = strip_course (start_at rs slots mark (t - 1))

  plays : Plays rs slots mark (t - 1) loop
  plays = well_closed_plays rs memory n mark (t - 1) loop_closed

  -- is the endless schedule of the list
  pub is_schedule : Schedule rs loop
  is_schedule = scheduled rs law.list slots n limit laid_on mark t found loop plays

  -- and no other course is
  pub one_schedule : (d : Course) → Schedule rs d → SameCourse d loop
  one_schedule = only_scheduled rs law.list slots n limit laid_on mark t found loop plays

  -- a walk grants it with the same loop
  pub walk_grants : Walks strip_meaning (start_at rs slots mark (t - 1)) (map come_on rs) (granted mark (t - 1 + 1 - mark))
  walk_grants =
      let below = found.below in
      let short = few in
      let all = fits in
      let turns : t - mark ≡ t - 1 + 1 - mark = omega arith in
      subst (λ (m : ℕ). Walks strip_meaning (start_at rs slots mark (t - 1)) (map come_on rs) (granted mark m)) turns
      (closed_granted rs law.list.works slots limit mark t fits (omega arith) found strip_meaning refl refl position_to_same)
