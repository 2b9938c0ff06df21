-- A repeat found for a laid strip: at its mark and its instant the books of every row are equal.
use Rattle.std.proofs.Common.{◌≡◌, ℕ, zero, suc, ◌+◌, ◌<◌, ◌≤◌, List, length, map, ap, sym, ◌∙◌, subst, inl, inr, add-one, arith}
use Rattle.std.proofs.lemmas.Bool.{cases_lt}
use Rattle.books.specs.Rows.{come_on}
use Rattle.books.proofs.Sames.{rows_from}
use Rattle.deferral.specs.Free.{free_below, play_of}
use Rattle.deferral.specs.Laid.{Laid}
use Rattle.readings.specs.Ranges.{WellMade, blank}
use Rattle.readings.specs.declared.reading.Reading.{Reading}
use Rattle.strip.specs.Closings.{Repeats}
use Rattle.strip.proofs.ClosingRuns.{closing_at}
use Rattle.strip.proofs.Returns.{not_new, turns}
use Rattle.strip.proofs.Turns.{Turn}

module _ (rs : List Reading) (well : WellMade rs) (slots : List ℕ) (n limit : ℕ) (laid : Laid rs n slots limit) where
  -- each row's limit lies on the strip
  limits_within : (k : ℕ) → k ≤ length rs → laid.limits k ≤ length slots
  limits_within zero h = let from = laid.from in let long = laid.long in omega arith
  limits_within (suc k) h =
      let above = limits_within k (omega arith) in
      let row = laid.rows k (omega arith) in
      let within = row.within row.last (omega arith) in
      let leaves = row.leaves in
      rw (← add-one) (omega arith)

  -- the limit lies on the strip
  pub limit_within : limit ≤ length slots
  limit_within = let to = laid.to in let all = limits_within (length rs) (omega arith) in omega arith

  module _ (mark t : ℕ) (found : Repeats slots limit (map come_on rs) mark t) where
    -- the books are equal there
    same_books : (closing_at slots limit (map come_on rs) mark).rows ≡ (closing_at slots limit (map come_on rs) t).rows
    same_books =
        let same = rows_from (closing_at slots limit (map come_on rs) t).rows _ found.repeats in
        ap (λ (u : ℕ). (closing_at slots limit (map come_on rs) u).rows) found.mark_is ∙ sym same

    -- its mark is past slot 0
    pub mark_past : 0 < mark
    mark_past =
        elim (cases_lt 0 mark) [
          | inl past ↦ past
          | inr start ↦
              let h : 0 < length rs = let some = well.some in omega arith in
              let zero' : mark ≡ 0 = omega arith in
              let same = subst (λ (u : ℕ). (closing_at slots limit (map come_on rs) u).rows ≡ (closing_at slots limit (map come_on rs) t).rows) zero' same_books in
              absurd (not_new rs slots limit limit_within 0 h (laid.limits 0) (laid.limits (0 + 1)) (laid.rows 0 h) (well.works 0 blank h).0 t found.from_one found.within same)
        ]

    -- what equal books say of each row
    pub turn_found : (k : ℕ) (h : k < length rs) → Turn (free_below (play_of slots) k) (laid.rows k h).spans (laid.rows k h).last mark t
    turn_found k h =
        turns rs slots limit limit_within k h (laid.limits k) (laid.limits (k + 1)) (laid.rows k h) (well.works k blank h).0 mark t mark_past found.below found.within same_books
