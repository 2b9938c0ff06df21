-- A player at its start plays its strip: what it keeps of each row before slot n, and the law that follows.
use Rattle.std.specs.Fn.{iterate}
use Rattle.std.specs.Prelude.{◌&&◌, ◌||◌, ◌==◌, if◌then◌else◌}
use Rattle.std.proofs.Common.{◌≡◌, ℕ, zero, suc, ◌+◌, ◌-◌, ◌<◌, ◌≤◌, All, Bool, List, length, get_or, take, sym, refl, ap, ◌∙◌, subst, inl, inr, arith}
use Rattle.std.proofs.lemmas.List.{get_or-map, length-map, length-take-le}
use Rattle.std.proofs.lemmas.Bool.{cases_eq, ne_eqb}
use Rattle.readings.specs.Ranges.{blank}
use Rattle.readings.specs.declared.reading.Reading.{Reading}
use Rattle.policy.specs.Course.{Course, names}
use Rattle.policy.proofs.Stepping.{last_step}
use Rattle.books.proofs.Each.{get_or_each, length_each}
use Rattle.strip.specs.WellClosed.{WellClosed}
use Rattle.strip.specs.Plays.{Plays, left_before}
use Rattle.strip.specs.Positions.{Position, no_work, resting, row_named, row_rests, start_at, strip_course, strip_next, work_after}
use Rattle.strip.specs.declared.work.RowWork.{RowWork}
use Rattle.strip.proofs.Bits.{names_samples, samples_small}
use Rattle.strip.proofs.Places.{first_place, inside_loop, later_place, next_place, place_at}

-- whether the row that is named rests is asked of that row alone
rests_here : (row k : ℕ) (ws : List RowWork) → (row == k + 1 && (get_or ws (row - 1) no_work).left == 0) ≡ (row == k + 1 && (get_or ws k no_work).left == 0)
rests_here row k ws =
    elim (cases_eq row (k + 1)) [
      | inl same ↦ let below : row - 1 ≡ k = omega arith in rw below
      | inr other ↦ rw (ne_eqb row (k + 1) other)
    ]

-- the work left a slot later
left_more : (place row k work left : ℕ) (b : Bool) (w : RowWork) → b ≡ (place == 0 || (row == k + 1 && w.left == 0)) → w.work ≡ work → w.left ≡ left
    → (work_after place row k w).left ≡ (if b then work else left) - (if row == k + 1 then 1 else 0)
left_more place row k work left b w e f g = rw (e, ← f, ← g)

module _ (rs : List Reading) (slots : List ℕ) (first last : ℕ) where
  abbrev course : Course
  course = strip_course (start_at rs slots first last)

  -- where the player stands before slot n
  abbrev standing : ℕ → Position
  standing n = iterate strip_next n (start_at rs slots first last)

  -- what it then keeps of row k + 1
  record RowStands (k n : ℕ) (w : RowWork) : Type 0 where
    work : w.work ≡ (get_or rs k blank).work
    left : w.left ≡ left_before (get_or rs k blank).work k course n

  -- and of the strip
  record Stands (n : ℕ) (p : Position) : Type 0 where
    strip : p.slots ≡ slots
    from : p.first ≡ first
    to : p.last ≡ last
    here : p.place ≡ place_at first last n
    count : length p.rows ≡ length rs
    each : (k : ℕ) → k < length rs → RowStands k n (get_or p.rows k no_work)

module _ (rs : List Reading) (slots : List ℕ) (first last : ℕ) (low : 1 ≤ first) (ordered : first ≤ last) where
  begins : Stands rs slots first last 0 (start_at rs slots first last)
  begins =
      record {
        strip = refl;
        from = refl;
        to = refl;
        here = sym (first_place first last low ordered);
        count = length-map rs resting;
        each = λ k h. rw (get_or-map resting rs k blank no_work h) (record { work = refl; left = refl });
      }

  module _ (n : ℕ) (i : Stands rs slots first last n (standing rs slots first last n)) where
    -- the rows that slot n samples
    samples_at : (k : ℕ) → k < length rs
        → names (course rs slots first last n).0 k ≡ ((standing rs slots first last n).place == 0 || (row_named (standing rs slots first last n) == k + 1 && (get_or (standing rs slots first last n).rows k no_work).left == 0))
    samples_at k h =
        let p = standing rs slots first last n in
        names_samples (length p.rows) p.place (row_named p) k (row_rests p) (omega (arith, i.count)) ∙ ap (λ (b : Bool). p.place == 0 || b) (rests_here (row_named p) k p.rows)

    goes_on : Stands rs slots first last (suc n) (strip_next (standing rs slots first last n))
    goes_on =
        let p = standing rs slots first last n in
        let after = work_after p.place (row_named p) in
        record {
          strip = i.strip;
          from = i.from;
          to = i.to;
          here = rw (i.here, i.to, i.from) (next_place first last low ordered n);
          count = length_each after 0 p.rows ∙ i.count;
          each = λ k h.
              let r = i.each k h in
              let w = get_or p.rows k no_work in
              let there = get_or_each after p.rows k no_work (omega (arith, i.count)) in
              subst (RowStands rs slots first last k (suc n)) (sym there)
              (record { work = r.work; left = left_more p.place (row_named p) k _ _ (names (course rs slots first last n).0 k) w (samples_at k h) r.work r.left });
        }

  stands : (n : ℕ) → Stands rs slots first last n (standing rs slots first last n)
  stands zero = begins
  stands (suc n) = subst (Stands rs slots first last (suc n)) (sym (last_step strip_next n (start_at rs slots first last))) (goes_on n (stands n))

  -- the slot that is named in slot n
  named_at : (n : ℕ) → (course rs slots first last n).1 ≡ get_or slots (place_at first last n) 0
  named_at n = let i = stands n in rw (i.strip, i.here)

  -- a player plays its strip
  pub strip_plays : All (λ row. row ≤ length rs) slots → last < length slots → Plays rs slots first last (strip_course (start_at rs slots first last))
  strip_plays named inside =
      record {
        runs = named_at;
        samples_first = λ k h. samples_at 0 (stands 0) k h;
        samples = λ n later k h.
            let i = stands n in
            let past : (standing rs slots first last n).place ≡ 0 → ⊥ = λ z. omega (arith, i.here, later_place first last low ordered n later) in
            let left = (i.each k h).left in
            samples_at n i k h ∙ rw (ne_eqb _ 0 past, left);
        no_others = λ n.
            let i = stands n in
            let p = standing rs slots first last n in
            let row : get_or slots (place_at first last n) 0 ≤ length rs = named (place_at first last n) 0 (omega (arith, inside_loop first last low ordered n)) in
            rw (sym i.count) (samples_small (length p.rows) p.place (row_named p) (row_rests p) (omega (arith, named_at n, i.count)));
      }

-- and so does a player of any closed strip
pub well_closed_plays : (rs : List Reading) (memory : List ℕ) (n first last : ℕ) → WellClosed (length rs) memory n first last → Plays rs (take n memory) first last (strip_course (start_at rs (take n memory) first last))
well_closed_plays rs memory n first last g =
    let inside : last < length (take n memory) = omega (arith, length-take-le n memory g.room, g.inside) in
    strip_plays rs (take n memory) first last g.from_one g.ordered g.named inside
