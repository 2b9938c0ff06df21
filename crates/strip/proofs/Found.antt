-- What the search of a closing finds on a strip that was laid.
use Rattle.std.proofs.Common.{◌≡◌, ℕ, ◌-◌, ◌≤◌, All, List, [], length, take, IfNone, IfSome, Some, None, Ok, Err, Option, Result, refl, ap, subst, arith}
use Rattle.std.specs.Result.{result_ok}
use Rattle.std.proofs.lemmas.List.{get_or_default, get_or-take, length-take-le}
use Rattle.readings.specs.Ranges.{WellMade}
use Rattle.readings.specs.declared.reading.Reading.{Reading}
use Rattle.repeat.specs.Finds.{Finds, RepeatFound}
use Rattle.repeat.specs.Looking.{look}
use Rattle.repeat.specs.SearchStep.{search_from}
use Rattle.repeat.specs.declared.found.NoRepeat.{NoRepeat}
use Rattle.repeat.specs.declared.found.Repeat.{Repeat}
use Rattle.repeat.proofs.Look.{look_finds}
use Rattle.books.specs.declared.fault.Fault.{Fault}
use Rattle.deferral.specs.Laying.{lay}
use Rattle.deferral.proofs.LaidRows.{laid, limit_range, strip_length}
use Rattle.strip.specs.Closings.{Closing, closing_meaning, loop_of, loop_to}

module _ (rs : List Reading) (well : WellMade rs) (slots : List ℕ) (limit : ℕ) (h : lay rs (length slots) ≡ Ok (slots, limit)) where
  -- the limit lies on the strip, which is not too long
  pub limit_fits : limit ≤ length slots
  limit_fits = (limit_range rs well.works (length slots) slots limit h).1

  pub slots_few : length slots ≤ 32767
  slots_few = (strip_length rs (length slots) (slots, limit) h).1

  -- each slot names a row or none
  pub slots_named : All (λ row. row ≤ length rs) slots
  slots_named k d l =
      let row = (laid rs well.works (length slots) slots limit h).no_others k in
      omega (arith, get_or_default slots k d 0 l)

  -- so do those up to the limit
  pub named_below : All (λ row. row ≤ length rs) (take limit slots)
  named_below k d l =
      let long = length-take-le limit slots limit_fits in
      rw (get_or-take limit slots k d (omega arith)) (slots_named k d (omega (arith, limit_fits)))

module _ (s : Closing) (limit : ℕ) (r : Result Repeat (NoRepeat Fault)) (only : (x : Result Repeat (NoRepeat Fault)) → Finds closing_meaning s limit x → x ≡ r) where
  -- the search that is computed finds the same
  looked : loop_to (look closing_meaning limit 0 (search_from s)) ≡ loop_to r
  looked = ap loop_to (only (look closing_meaning limit 0 (search_from s)) (look_finds closing_meaning s limit))

  -- a search without a repeat tells that there is none
  unrepeated : (end : NoRepeat Fault) → r ≡ Err end → (mark t : ℕ) → ¬ RepeatFound closing_meaning s limit mark t
  unrepeated end e mark t found = let same = only (Ok (record { mark = mark; instant = t })) found in cc

-- what is told of a repeat, or of none
pub record Told (s : Closing) (limit : ℕ) (o : Option Repeat) : Type 0 where
  pub found : IfSome o (λ r. RepeatFound closing_meaning s limit r.mark r.instant)
  pub value : IfSome o (λ r. loop_to (look closing_meaning limit 0 (search_from s)) ≡ Some (r.mark, r.instant - 1))
  pub none : IfNone o (loop_to (look closing_meaning limit 0 (search_from s)) ≡ None)
  pub unrepeated : IfNone o ((mark t : ℕ) → ¬ RepeatFound closing_meaning s limit mark t)

told : (s : Closing) (limit : ℕ) (r : Result Repeat (NoRepeat Fault)) → Finds closing_meaning s limit r → ((x : Result Repeat (NoRepeat Fault)) → Finds closing_meaning s limit x → x ≡ r) → Told s limit (result_ok r)
told s limit (Ok found) f only = record { found = f; value = looked s limit (Ok found) only; none = tt; unrepeated = tt }
told s limit (Err end) f only = record { found = tt; value = tt; none = looked s limit (Err end) only; unrepeated = unrepeated s limit (Err end) only end refl }

-- and so of a walk that starts at the start of a strip
pub told_from : (start s : Closing) (limit : ℕ) (r : Result Repeat (NoRepeat Fault)) (o : Option Repeat) → s ≡ start → o ≡ result_ok r → Finds closing_meaning s limit r
    → ((x : Result Repeat (NoRepeat Fault)) → Finds closing_meaning s limit x → x ≡ r) → Told start limit o
told_from start s limit r o e is f only = rw is (subst (λ (x : Closing). Told x limit (result_ok r)) e (told s limit r f only))

-- where nothing is laid there is no loop
pub nothing_laid : loop_of [] 0 [] ≡ None
unfolding look
nothing_laid = refl
