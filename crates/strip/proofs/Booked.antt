-- The books of a closing strip, row by row: what they say of a row's jobs before each slot.
use Rattle.std.proofs.Common.{◌≡◌, ℕ, zero, suc, ◌+◌, ◌<◌, ◌≤◌, true, false, List, length, get_or, is_none, ap, sym, ◌∙◌, subst, inl, inr, add-one, one-add, arith}
use Rattle.std.proofs.lemmas.Bool.{cases_eq, eq-eqb, ne_eqb}
use Rattle.books.specs.Rows.{blank_row, come_on}
use Rattle.books.specs.declared.row.Row.{Row}
use Rattle.deferral.specs.Free.{Free, Play, free_below, free_between, play_of}
use Rattle.deferral.specs.declared.span.Span.{Span}
use Rattle.readings.specs.declared.reading.Reading.{Reading}
use Rattle.strip.proofs.BookedRows.{Past, booked, first_row, opens_row, rests_row, row_by, works_row}
use Rattle.strip.proofs.ClosingRuns.{closing_at, row_first, row_runs, row_waits}
use Rattle.strip.proofs.Windows.{First, Opens, Rests, Standing, Windows, Works, each_slot, first_slot, sampled_later}

-- a row of the books before slot n: job j is the last sampled, and has left what is still to come of its slots
pub record BookedRow (play : Play) (k : ℕ) (r : Reading) (spans : ℕ → Span) (Counts : ℕ → Type 0) (n : ℕ) (row : Row) : Type 0 where
  pub job : ℕ
  pub standing : Standing spans Counts n job
  pub is : row ≡ booked r spans n job (free_between (free_below play k) n (spans job).deadline)

module _ (slots : List ℕ) (limit : ℕ) (fits : limit ≤ length slots) (rows : List Row) (k : ℕ) (h : k < length rows) (r : Reading) (on : get_or rows k blank_row ≡ come_on r)
    (spans : ℕ → Span) (Counts : ℕ → Type 0) (x : Windows (play_of slots) k r.work spans Counts) where
  abbrev row_at : ℕ → Row
  row_at n = get_or (closing_at slots limit rows n).rows k blank_row

  abbrev free : Free
  free = free_below (play_of slots) k

  abbrev Booked : ℕ → Type 0
  Booked n = BookedRow (play_of slots) k r spans Counts n (row_at n)

  -- samples up to the last one are past
  past : (n j : ℕ) → Standing spans Counts n j → Past spans n j
  past n j s i l =
      let began = s.began in
      elim (cases_eq i j) [
        | inl same ↦ subst (λ (a : ℕ). (spans a).sample ≤ n) (sym same) (omega arith)
        | inr other ↦ let later = sampled_later (play_of slots) k r.work spans Counts x i j (omega arith) s.counts in omega arith
      ]

  -- slot 0 samples the row
  booked_first : 0 < limit → Booked 1
  booked_first some =
      let s : First (play_of slots) k r.work spans Counts = first_slot (play_of slots) k r.work spans Counts x in
      let left : ℕ = free_between free 1 (spans 0).deadline in
      record {
        job = 0;
        standing = s.standing;
        is = elim s.left [
          | inl (e, less) ↦
              row_first slots limit fits rows k some h true (eq-eqb _ _ e) ∙ ap (row_by true true) on ∙ first_row r spans true left x.first_sample less
          | inr (other, all) ↦
              row_first slots limit fits rows k some h false (ne_eqb _ _ other) ∙ ap (row_by true false) on ∙ first_row r spans false left x.first_sample (omega arith)
        ];
      }

  -- a slot that samples the row
  on_opens : (n : ℕ) → 0 < n → n < limit → (b : Booked n) → Opens (play_of slots) k r.work spans Counts n b.job → Booked (n + 1)
  on_opens n some within b o =
      let j : ℕ = b.job in
      let now : row_at n ≡ booked r spans n j 0 = b.is ∙ ap (booked r spans n j) o.none_left in
      let through = row_runs slots limit fits rows n k some within h o.runs true (ap (λ (q : Row). is_none q.job) now) in
      record {
        job = j + 1;
        standing = o.standing;
        is = through ∙ ap (row_by true true) now ∙ opens_row r spans n j (free_between free (n + 1) (spans (j + 1)).deadline) o.here (past n j b.standing) o.left;
      }

  -- one that the open job runs
  on_works : (n : ℕ) → 0 < n → n < limit → (b : Booked n) → Works (play_of slots) k spans Counts n b.job → Booked (n + 1)
  on_works n some within b o =
      let j : ℕ = b.job in
      let left : ℕ = free_between free (n + 1) (spans j).deadline in
      let now : row_at n ≡ booked r spans n j (suc left) = b.is ∙ ap (booked r spans n j) (o.left ∙ one-add left) in
      let through = row_runs slots limit fits rows n k some within h o.runs false (ap (λ (q : Row). is_none q.job) now) in
      record {
        job = j;
        standing = o.standing;
        is = through ∙ ap (row_by false true) now ∙ works_row r spans n j left (past n j b.standing);
      }

  -- one in which the row is not run
  on_rests : (n : ℕ) → 0 < n → n < limit → (b : Booked n) → Rests (play_of slots) k spans Counts n b.job → Booked (n + 1)
  on_rests n some within b o =
      let j : ℕ = b.job in
      let now : row_at n ≡ booked r spans n j (free_between free (n + 1) (spans j).deadline) = b.is ∙ ap (booked r spans n j) o.left in
      record {
        job = j;
        standing = o.standing;
        is = row_waits slots limit fits rows n k some within h o.runs_not ∙ ap (row_by false false) now ∙ rests_row r spans n j (free_between free (n + 1) (spans j).deadline) (past n j b.standing);
      }

  -- the row a slot later
  booked_on : (n : ℕ) → 0 < n → n < limit → Booked n → Booked (n + 1)
  booked_on n some within b =
      elim (each_slot (play_of slots) k r.work spans Counts x n b.job b.standing) [
        | inl o ↦ on_opens n some within b o
        | inr (inl o) ↦ on_works n some within b o
        | inr (inr o) ↦ on_rests n some within b o
      ]

  -- the row before each slot from slot 1 on
  pub booked_at : (n : ℕ) → 0 < n → n ≤ limit → Booked n
  booked_at zero some within = absurd (omega arith)
  booked_at (suc zero) some within = booked_first (omega arith)
  booked_at (suc (suc n)) some within = subst Booked (add-one (suc n)) (booked_on (suc n) (omega arith) (omega arith) (booked_at (suc n) (omega arith) (omega arith)))
