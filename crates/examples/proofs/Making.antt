-- Laying on a memory with room and closing makes the strip of a list, or is refused.
use Rattle.std.proofs.Common.{◌≡◌, ℕ, ◌≤◌, List, [], map, leb, Some, None, Ok, Err, refl, sym, ap, ◌∙◌}
use Rattle.std.proofs.lemmas.Bool.{cond-true, le-leb}
use Rattle.readings.specs.declared.reading.Reading.{Reading}
use Rattle.books.specs.Rows.{come_on}
use Rattle.deferral.specs.Laying.{Laying, lay}
use Rattle.strip.specs.Closings.{loop_of}
use Rattle.strip.specs.LaidIn.{lay_within}
use Rattle.strip.specs.Strips.{Strip, closed_strip, laid_strip}

module _ (rs : List Reading) (n room : ℕ) (fits : n ≤ room) where
  -- a memory with room does not count
  lays : (laid : Laying) → lay_within room rs n ≡ laid → lay rs n ≡ laid
  lays laid is = sym (cond-true (leb n room) (lay rs n) (Err (6, [])) (le-leb n room fits)) ∙ is

  -- what is laid is closed
  pub closes : (laid : Laying) → lay_within room rs n ≡ laid → laid_strip rs n ≡ closed_strip rs laid
  closes laid is = ap (closed_strip rs) (lays laid is)

  module _ (ds : List Reading) (slots : List ℕ) (limit : ℕ) (is : lay_within room rs n ≡ Ok (slots, limit)) (same : ds ≡ rs) where
    -- with the loop that closing finds
    pub loop_found : (s : Strip) → s.rows ≡ ds → s.slots ≡ slots → loop_of slots limit (map come_on ds) ≡ Some (s.first, s.last)
        → laid_strip rs n ≡ Ok s
    loop_found s rows on found =
        closes (Ok (slots, limit)) is
        ∙ rw (← same, found, ← rows, ← on) refl

    -- and refused where there is none
    pub no_loop : loop_of slots limit (map come_on ds) ≡ None → laid_strip rs n ≡ Err (9, [])
    no_loop none = closes (Ok (slots, limit)) is ∙ rw (← same, none) refl
