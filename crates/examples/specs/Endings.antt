-- What gives the ending of an example: a walk, the numbers of three rows, a slot, the test for a
-- crossing.
use Rattle.std.specs.Prelude.{◌≡◌, ℕ, ◌*◌, ◌<◌, ◌≤◌, ◌↔◌, Bool, EachIndex, IsTrue, List, [], ◌∷◌, map, take, slice_index, slice_index_or, None, Option, Ok, Err, Result}
use Rattle.readings.specs.Ranges.{blank}
use Rattle.readings.specs.Refusals.{content}
use Rattle.readings.specs.declared.reading.Reading.{Reading}
use Rattle.readings.specs.declared.refusal.Refusal.{Refusal}
use Rattle.policy.specs.Course.{Course, Meaning}
use Rattle.planner.specs.Periods.{MoreLess, more_less}
use Rattle.planner.specs.Response.{IsResponseTime, Settles}
use Rattle.planner.specs.declared.timing.Timing.{Timing}
use Rattle.books.specs.Rows.{blank_row}
use Rattle.books.specs.Slots.{books_at, fault_at, judged, shown_row}
use Rattle.walk.specs.Crossings.{MayCross}
use Rattle.walk.specs.Finishes.{FirstFinish}
use Rattle.walk.specs.Walks.{Walks, granted, refused}
use Rattle.examples.specs.Lists.{new_books}
use Rattle.examples.specs.declared.ending.Ending.{Ending}
use Rattle.examples.specs.declared.ending.Ending.TheVariants.{Granted, EachRow, Judged, Says}

-- a walk from position p with new books for a list ends so
abbrev pub WalkGives : {Pos : Type 0} → Meaning Pos → Pos → List Reading → Result Ending Refusal
    → Type 0
WalkGives kind p ds (Ok (Granted mark length)) = Walks kind p (new_books ds) (granted mark length)
WalkGives kind p ds (Err refusal) = Walks kind p (new_books ds) (refused (content refusal))
WalkGives kind p ds _ = ⊥

-- these are the periods of three rows
abbrev pub PeriodsGive : List Timing → Result Ending Refusal → Type 0
PeriodsGive ts (Ok (EachRow first second third)) =
    map (λ (t : Timing). t.period) ts ≡ first ∷ second ∷ third ∷ []
PeriodsGive ts _ = ⊥

-- with these timings of the rows above it, row k + 1 of a list has this response time
abbrev pub ResponseOf : List Reading → List Timing → ℕ → ℕ → Type 0
ResponseOf ds ts k d =
    IsResponseTime (take k ts) (slice_index_or ds k blank).work
    (slice_index_or ds k blank).validity d

-- these are the response times of the first three rows
abbrev pub ResponsesGive : List Reading → List Timing → Result Ending Refusal → Type 0
ResponsesGive ds ts (Ok (EachRow first second third)) =
    ResponseOf ds ts 0 first × ResponseOf ds ts 1 second × ResponseOf ds ts 2 third
ResponsesGive ds ts _ = ⊥

-- More-Less refuses a list at row k + 1: the least number of slots that settles with the timings of
-- the rows above it is d, and twice that exceeds the validity
pub record TooLong (ds : List Reading) (k d : ℕ) (refusal : Refusal) : Type 0 where
  pub refused : more_less ds ≡ Err (content refusal)
  pub above : List Timing
  pub planned_above : MoreLess (take k ds) above
  pub settles : Settles above (slice_index_or ds k blank).work d
  pub least : (r : ℕ) → Settles above (slice_index_or ds k blank).work r → d ≤ r
  pub late : (slice_index_or ds k blank).validity < 2 * d

-- that refusal
abbrev pub TooLongGives : List Reading → (k d : ℕ) → Result Ending Refusal → Type 0
TooLongGives ds k d (Ok _) = ⊥
TooLongGives ds k d (Err refusal) = TooLong ds k d refusal

-- these are the first finishes of the first three rows along a course
abbrev pub FinishesGive : Course → List Reading → Result Ending Refusal → Type 0
FinishesGive c ds (Ok (EachRow first second third)) =
    FirstFinish c (new_books ds) 0 first
    × FirstFinish c (new_books ds) 1 second
    × FirstFinish c (new_books ds) 2 third
FinishesGive c ds _ = ⊥

-- in a slot of a course row k + 1 is judged at an age that equals its validity, the slot has no
-- fault, and this is the row whose value it puts on show, if of any
pub record JustValid (c : Course) (ds : List Reading) (slot k age : ℕ) (shown : Option ℕ)
    : Type 0 where
  pub reached :
      (judged (c slot) k (slice_index_or (books_at c (new_books ds) slot) k blank_row)).age ≡ age
  pub equal : age ≡ (slice_index_or ds k blank).validity
  pub faultless : fault_at c (new_books ds) slot ≡ None
  pub shows : shown ≡ shown_row (c slot) (books_at c (new_books ds) slot)

-- such an age and such a row
abbrev pub SlotGives : Course → List Reading → (slot k : ℕ) → Result Ending Refusal → Type 0
SlotGives c ds slot k (Ok (Judged age shown)) = JustValid c ds slot k age shown
SlotGives c ds slot k _ = ⊥

-- whether the books of one list after n slots of its course c may cross to another list with its
-- course d, by the first finish of each row there
pub record CrossingTest (c : Course) (old : List Reading) (n : ℕ) (d : Course) (new : List Reading)
    (said : Bool) : Type 0 where
  pub finishes : List ℕ
  pub first : EachIndex new (λ k. FirstFinish d (new_books new) k (slice_index finishes k))
  pub says : IsTrue said ↔ MayCross (books_at c (new_books old) n) new finishes

-- what the test says
abbrev pub CrossingGives : Course → List Reading → ℕ → Course → List Reading
    → Result Ending Refusal → Type 0
CrossingGives c old n d new (Ok (Says said)) = CrossingTest c old n d new said
CrossingGives c old n d new _ = ⊥
