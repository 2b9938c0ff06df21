-- A walk of a strip with books, a slot later.
use Rattle.std.proofs.Common.{◌≡◌, ℕ, ◌≤◌, All, List, length, ap, sym, ◌∙◌, subst}
use Rattle.policy.specs.Course.{Answer}
use Rattle.books.specs.Slots.{slot}
use Rattle.books.specs.declared.row.Row.{Row}
use Rattle.books.proofs.Keeps.{slot_length}
use Rattle.strip.specs.Walked.{InWalk}

-- the slots still name rows of the books
pub walked_on : (slots : List ℕ) (place next : ℕ) (a : Answer) (old new : List Row) → next ≤ length slots → new ≡ slot a old → InWalk slots place (length old) → InWalk slots next (length new)
walked_on slots place next a old new here e w =
    let count = ap length e ∙ slot_length a old in
    record { few = w.few; here = here; named = subst (λ (n : ℕ). All (λ row. row ≤ n) slots) (sym count) w.named }
