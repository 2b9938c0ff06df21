-- A strip whose closing found a repeat is granted by a walk, with the same mark and a loop up to the repeat.
use Rattle.std.proofs.Common.{◌≡◌, ℕ, zero, suc, ◌+◌, ◌-◌, ◌<◌, ◌≤◌, All, true, List, length, map, get_or, is_none, ap, sym, refl, subst, ◌∙◌, arith}
use Rattle.std.proofs.lemmas.Bool.{eq-eqb, ne_eqb}
use Rattle.std.proofs.lemmas.List.{get_or-take}
use Rattle.std.specs.Fn.{iterate}
use Rattle.policy.specs.Course.{Answer, Course, Meaning}
use Rattle.policy.proofs.Stepping.{last_step}
use Rattle.readings.specs.Ranges.{WorkRange}
use Rattle.readings.specs.declared.reading.Reading.{Reading}
use Rattle.repeat.specs.Marks.{after, mark_of}
use Rattle.repeat.proofs.Marks.{largest}
use Rattle.books.specs.Rows.{blank_row, come_on, same_rows}
use Rattle.books.specs.Slots.{books_at, fault_at, slot}
use Rattle.books.specs.declared.row.Row.{Row}
use Rattle.books.proofs.Sames.{rows_from, rows_to}
use Rattle.walk.specs.Walks.{Grants, Walks, granted, Repeats as WalkRepeats}
use Rattle.strip.proofs.ClosingRuns.{closing_at, closing_place, closing_slots}
use Rattle.strip.proofs.Matching.{RowsMatch, rests_same, rows_on, rows_one, rows_start}
use Rattle.strip.specs.Answers.{strip_samples}
use Rattle.strip.specs.Closings.{Closing, Repeats, closing_answer, closing_fault, closing_next, row_named as books_named, row_rests as books_rest}
use Rattle.strip.specs.Positions.{Position, row_named, row_rests, start_at, strip_answer, strip_course, strip_next}

-- n steps of a stepped thing, the last or the first of them apart
after_iterate : {S : Type 0} (f : S → S) (n : ℕ) (s : S) → iterate f n s ≡ after f n s
after_iterate f zero s = refl
after_iterate f (suc n) s = last_step f n s ∙ ap f (after_iterate f n s)

module _ (p : Position) (s : Closing) (place : p.place ≡ s.place) (named : row_named p ≡ books_named s) (m : RowsMatch p.rows s.rows) where
  -- the row that the slot names rests on both sides, or on neither
  rest_same : row_rests p ≡ books_rest s
  rest_same =
      rests_same p.rows s.rows m (row_named p - 1)
      ∙ ap (λ (row : ℕ). is_none (get_or s.rows (row - 1) blank_row).job) named

  -- a player and closing that stand alike answer alike
  answer_same : strip_answer p ≡ closing_answer s
  answer_same =
      let rests = rest_same in
      let rows = m.same in
      cc

  -- and their rows match a slot later
  rows_next : RowsMatch (strip_next p).rows (closing_next s).rows
  rows_next =
      let at_named : ◌≡◌ {A = Answer} (strip_samples (length s.rows) p.place (row_named p) (is_none (get_or s.rows (row_named p - 1) blank_row).job), row_named p) (closing_answer s) = cc in
      subst (λ (a : Answer). RowsMatch (strip_next p).rows (slot a s.rows)) at_named (rows_on p.rows s.rows m p.place (row_named p))

-- a strip of enough slots, closed up to a limit and played with the loop from the mark to t, both from the start
module _ (rs : List Reading) (works : All WorkRange rs) (slots : List ℕ) (limit mark t : ℕ) (laid : limit ≤ length slots) (within : t ≤ limit) where
  -- the player at the start
  abbrev started : Position
  started = start_at rs slots mark (t - 1)

  -- and after n slots
  abbrev player : ℕ → Position
  player n = after strip_next n started

  -- closing after n slots
  abbrev closing : ℕ → Closing
  closing = closing_at slots limit (map come_on rs)

  -- the player keeps its slots
  player_slots : (n : ℕ) → (player n).slots ≡ slots
  player_slots zero = refl
  player_slots (suc n) = player_slots n

  -- the first slot of its loop
  player_first : (n : ℕ) → (player n).first ≡ mark
  player_first zero = refl
  player_first (suc n) = player_first n

  -- and the last
  player_last : (n : ℕ) → (player n).last ≡ t - 1
  player_last zero = refl
  player_last (suc n) = player_last n

  -- before the repeat it stands at the number of the slot
  player_place : (n : ℕ) → n < t → (player n).place ≡ n
  player_place zero h = refl
  player_place (suc n) h =
      let before = player_place n (omega arith) in
      let last = player_last n in
      rw (ne_eqb (player n).place (player n).last (λ e. omega arith)) (omega arith)

  -- and at the repeat it stands at the mark
  player_returns : (n : ℕ) → suc n ≡ t → (player (suc n)).place ≡ mark
  player_returns n h =
      let before = player_place n (omega arith) in
      let last = player_last n in
      rw (eq-eqb (player n).place (player n).last (omega arith)) (player_first n)

  -- so before the repeat both stand at the same place
  place_same : (n : ℕ) → n < t → (player n).place ≡ (closing n).place
  place_same n h = player_place n h ∙ sym (closing_place slots limit laid (map come_on rs) n (omega arith))

  -- and name the same row
  named_same : (n : ℕ) → n < t → row_named (player n) ≡ books_named (closing n)
  named_same n h =
      let here = player_slots n in
      let there = closing_slots slots limit laid (map come_on rs) n in
      let place = player_place n h in
      let other = closing_place slots limit laid (map come_on rs) n (omega arith) in
      let taken = get_or-take limit slots n 0 (omega arith) in
      cc

  -- up to the repeat the rows of the player match those of the books
  pub rows_match : (n : ℕ) → n ≤ t → RowsMatch (player n).rows (closing n).rows
  rows_match zero h = rows_start rs works
  rows_match (suc n) h =
      rows_next (player n) (closing n) (place_same n (omega arith)) (named_same n (omega arith)) (rows_match n (omega arith))

  -- before the repeat the player answers as closing does
  pub course_match : (n : ℕ) → n < t → strip_course started n ≡ closing_answer (closing n)
  course_match n h =
      ap strip_answer (after_iterate strip_next n started)
      ∙ answer_same (player n) (closing n) (place_same n h) (named_same n h) (rows_match n (omega arith))

  -- up to the repeat the books of the player are those of closing
  pub books_match : (n : ℕ) → n ≤ t → books_at (strip_course started) (map come_on rs) n ≡ (closing n).rows
  books_match zero h = refl
  books_match (suc n) h =
      let answer = course_match n (omega arith) in
      let before = books_match n (omega arith) in
      cc

  -- and so are their faults
  pub faults_match : (n : ℕ) → n < t → fault_at (strip_course started) (map come_on rs) n ≡ closing_fault (closing n)
  faults_match n h =
      let answer = course_match n h in
      let books = books_match n (omega arith) in
      cc

  -- where the books at the repeat are as they were at the mark, the player is where it was at the mark
  pub player_again : mark < t → (closing t).rows ≡ (closing mark).rows → player t ≡ player mark
  player_again below same =
      let whole : suc (t - 1) ≡ t = omega arith in
      let place = subst (λ (n : ℕ). (player n).place ≡ mark) whole (player_returns (t - 1) whole) ∙ sym (player_place mark below) in
      let again = rows_match t (omega arith) in
      let earlier = rows_match mark (omega arith) in
      let rows = rows_one _ _ (subst (RowsMatch (player t).rows) same again) _ earlier in
      let slots_same = player_slots t ∙ sym (player_slots mark) in
      let first_same = player_first t ∙ sym (player_first mark) in
      let last_same = player_last t ∙ sym (player_last mark) in
      let equal : ◌≡◌ {A = Position}
      (record { slots = (player t).slots; first = (player t).first; last = (player t).last; place = (player t).place; rows = (player t).rows })
      (record { slots = (player mark).slots; first = (player mark).first; last = (player mark).last; place = (player mark).place; rows = (player mark).rows }) = cc in
      equal

  -- the repeat that closing found, for a kind of policy that plays strips
  module _ (found : Repeats slots limit (map come_on rs) mark t) (short : limit ≤ 32767) (kind : Meaning Position) (course_is : kind.course ≡ strip_course) (next_is : kind.next ≡ strip_next) (alike_self : (p : Position) → kind.alike p p ≡ true) where
    -- the walk has the books of closing up to the repeat
    walk_books : (n : ℕ) → n ≤ t → books_at (kind.course started) (map come_on rs) n ≡ (closing n).rows
    walk_books n h = ap (λ (course : Position → Course). books_at (course started) (map come_on rs) n) course_is ∙ books_match n h

    -- its faults
    walk_faults : (n : ℕ) → n < t → fault_at (kind.course started) (map come_on rs) n ≡ closing_fault (closing n)
    walk_faults n h = ap (λ (course : Position → Course). fault_at (course started) (map come_on rs) n) course_is ∙ faults_match n h

    -- and the positions of the player
    walk_player : (n : ℕ) → after kind.next n started ≡ player n
    walk_player n = ap (λ (next : Position → Position). after next n started) next_is

    -- so it repeats where closing does
    walk_repeats : WalkRepeats kind started (map come_on rs) t
    walk_repeats =
        let mark_is = found.mark_is in
        let below = found.below in
        let rows : (closing t).rows ≡ (closing (mark_of t)).rows = rows_from _ _ found.repeats in
        let at_mark = ap (λ (n : ℕ). (closing n).rows) mark_is in
        let here = walk_books t (omega arith) in
        let there = walk_books (mark_of t) (omega arith) in
        let stands = player_again below (rows ∙ sym at_mark) in
        let left = walk_player t in
        let right = walk_player (mark_of t) in
        let mark_player = ap player mark_is in
        let same : after kind.next (mark_of t) started ≡ after kind.next t started = cc in
        (here ∙ rows ∙ sym there, subst (λ (p : Position). kind.alike (after kind.next t started) p ≡ true) (sym same) (alike_self _))

    -- and not before
    walk_first : (u : ℕ) → 0 < u → u < t → ¬ WalkRepeats kind started (map come_on rs) u
    walk_first u some h again =
        let below = (largest u some).below in
        let here = walk_books u (omega arith) in
        let there = walk_books (mark_of u) (omega arith) in
        let rows : (closing u).rows ≡ (closing (mark_of u)).rows = sym here ∙ again.0 ∙ there in
        found.first u some h (ap (λ (xs : List Row). same_rows (closing u).rows xs) (sym rows) ∙ rows_to (closing u).rows)

    -- and is granted
    grants : (length : ℕ) → t ≡ mark + length → Grants kind started (map come_on rs) mark length
    grants length e =
        let below = found.below in
        record {
          some = omega arith;
          within = omega arith;
          mark_is = found.mark_is ∙ ap mark_of e;
          repeats = subst (WalkRepeats kind started (map come_on rs)) e walk_repeats;
          faultless = λ n h. let inside : n < t = omega arith in walk_faults n inside ∙ found.faultless n inside;
          first = λ u some h. walk_first u some (omega arith);
        }

-- a strip whose closing found a repeat is granted, with the mark of the repeat and a loop up to it
pub closed_granted : (rs : List Reading) → All WorkRange rs → (slots : List ℕ) (limit mark t : ℕ) → limit ≤ length slots → limit ≤ 32767 → Repeats slots limit (map come_on rs) mark t
    → (kind : Meaning Position) → kind.course ≡ strip_course → kind.next ≡ strip_next → ((p : Position) → kind.alike p p ≡ true)
    → Walks kind (start_at rs slots mark (t - 1)) (map come_on rs) (granted mark (t - mark))
closed_granted rs works slots limit mark t laid short found kind course_is next_is alike_self =
    let below = found.below in
    grants rs works slots limit mark t laid found.within found short kind course_is next_is alike_self (t - mark) (omega arith)
