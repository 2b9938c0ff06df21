-- What the code keeps of the first block of a show file.
use Rattle.std.specs.Prelude.{◌≡◌, ℕ, List, map}
use Rattle.readings.specs.Lists.{rows_of}
use Rattle.readings.specs.Proposals.{kept}
use Rattle.showfile.specs.Told.{first_told, last_told, rows_read, slots_told}
use Rattle.showfile.specs.declared.head.Head.{Head}

-- its list and its numbers are those that the block tells
pub record IsTold (h : Head) (block : List ℕ) : Type 0 where
  pub list : rows_of h.list ≡ map kept (rows_read block)
  pub slots : h.slots ≡ slots_told block
  pub first : h.first ≡ first_told block
  pub last : h.last ≡ last_told block
