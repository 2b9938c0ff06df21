-- How a walk ends: a policy is stepped with new books until the books equal those at the mark and
-- the positions compare yes.
use Rattle.std.specs.Prelude.{◌≡◌, ℕ, ◌+◌, ◌<◌, ◌≤◌, true, ◌⊎◌, List, [], Some, None}
use Rattle.readings.specs.Refusals.{Content}
use Rattle.policy.specs.Course.{Meaning}
use Rattle.repeat.specs.Marks.{after, mark_of}
use Rattle.repeat.specs.declared.found.NoRepeat.{NoRepeat}
use Rattle.repeat.specs.declared.found.NoRepeat.TheVariants as end
use Rattle.books.specs.Faults.{fault_content}
use Rattle.books.specs.Slots.{books_at, fault_at}
use Rattle.books.specs.declared.fault.Fault.{Fault}
use Rattle.books.specs.declared.row.Row.{Row}

-- what a walk answers: a mark and a length, or what a refusal tells
pub data Outcome : Type 0 where
  granted : ℕ → ℕ → Outcome
  refused : Content → Outcome

-- what a walk tells whose search has no repeat
abbrev pub end_content : NoRepeat Fault → Content
end_content (end.Fault slot met) = fault_content met slot
end_content end.Nowhere = (13, [])

-- the last instant that a walk comes to
abbrev pub last_instant : ℕ
last_instant = 32767

-- a walk from position p with books of these rows
module _ {Pos : Type 0} (kind : Meaning Pos) (p : Pos) (rs : List Row) where
  -- the slots before instant n have no fault
  abbrev pub NoFaultBefore : ℕ → Type 0
  NoFaultBefore n = (m : ℕ) → m < n → fault_at (kind.course p) rs m ≡ None

  -- at instant t the books equal those at t's mark, and the position compares yes with the one
  -- there
  abbrev pub Repeats : ℕ → Type 0
  Repeats t =
      (books_at (kind.course p) rs t ≡ books_at (kind.course p) rs (mark_of t))
      × (kind.alike (after kind.next t p) (after kind.next (mark_of t) p) ≡ true)

  -- no instant from 1 to n repeats
  abbrev pub NoRepeatUpTo : ℕ → Type 0
  NoRepeatUpTo n = (t : ℕ) → 0 < t → t ≤ n → ¬ Repeats t

  -- granted: the first repeat, by instant 32,767, with no fault before it
  pub record Grants (mark length : ℕ) : Type 0 where
    pub some : 0 < length
    pub within : mark + length ≤ last_instant
    pub mark_is : mark ≡ mark_of (mark + length)
    pub repeats : Repeats (mark + length)
    pub faultless : NoFaultBefore (mark + length)
    pub first : (t : ℕ) → 0 < t → t < mark + length → ¬ Repeats t

  -- refused: the first fault, with no repeat before it
  pub record MeetsFault (said : Content) : Type 0 where
    pub slot : ℕ
    pub met : Fault
    pub within : slot < last_instant
    pub is : fault_at (kind.course p) rs slot ≡ Some met
    pub faultless : NoFaultBefore slot
    pub unrepeated : NoRepeatUpTo slot
    pub tells : said ≡ fault_content met slot

  -- refused: neither a fault nor a repeat by instant 32,767
  pub record FindsNoRepeat (said : Content) : Type 0 where
    pub faultless : NoFaultBefore last_instant
    pub unrepeated : NoRepeatUpTo last_instant
    pub tells : said ≡ (13, [])

  abbrev pub Walks : Outcome → Type 0
  Walks (granted mark length) = Grants mark length
  Walks (refused said) = MeetsFault said ⊎ FindsNoRepeat said
