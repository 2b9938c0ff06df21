-- A policy with its books, stepped together: they stand at a position and the rows of the books.
use Rattle.std.specs.Prelude.{Bool, ◌&&◌, List, Option}
use Rattle.policy.specs.Course.{Meaning}
use Rattle.books.specs.Rows.{same_rows}
use Rattle.books.specs.Slots.{fault, slot}
use Rattle.books.specs.declared.fault.Fault.{Fault}
use Rattle.books.specs.declared.row.Row.{Row}

module _ {Pos : Type 0} (kind : Meaning Pos) where
  -- the fault of the next slot
  abbrev pub walk_fault : Pos × List Row → Option Fault
  walk_fault s = fault (kind.course s.0 0) s.1

  -- the books take the policy's answer
  abbrev pub walk_next : Pos × List Row → Pos × List Row
  walk_next s = (kind.next s.0, slot (kind.course s.0 0) s.1)

  -- where the slot has a fault, the policy has moved on, and the books are as they were
  abbrev pub walk_stopped : Pos × List Row → Pos × List Row
  walk_stopped s = (kind.next s.0, s.1)

  -- the books are equal, and the positions compare yes
  abbrev pub walk_alike : Pos × List Row → Pos × List Row → Bool
  walk_alike s t = same_rows s.1 t.1 && kind.alike s.0 t.0
