-- What is read of a file, by its spelling.
use Rattle.std.proofs.Common.{◌≡◌, ℕ, ◌≤◌, List, length, Some, None, Option, sym, ap, ◌∙◌}
use Rattle.readings.specs.Refusals.{Content}
use Rattle.strip.specs.Strips.{IsClosed, Strip}
use Rattle.showfile.specs.Reading.{file_refusal}
use Rattle.showfile.specs.Told.{blocks, strip_read}
use Rattle.showfile.specs.Spelling.{spelling}
use Rattle.showfile.proofs.Again.{again}

-- a file that spells a closed strip, for which there is room
module _ (file : List ℕ) (room : ℕ) (s : Strip) (is : IsClosed s) (fits : length s.slots ≤ room) (e : file ≡ spelling s) where
  -- nothing refuses it
  pub not_refused : (refusal : Content) → file_refusal file room ≡ Some refusal → ⊥
  not_refused refusal r =
      let none : file_refusal file room ≡ None = ap (λ (bytes : List ℕ). file_refusal bytes room) e ∙ (again s room is fits).0 in
      let clash : ◌≡◌ {A = Option Content} (Some refusal) None = sym r ∙ none in
      absurd cc

  -- it is read as that strip
  pub is_read : strip_read (blocks file) ≡ s
  is_read = ap (λ (bytes : List ℕ). strip_read (blocks bytes)) e ∙ (again s room is fits).1
