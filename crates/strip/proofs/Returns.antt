-- Books that are equal at a mark m and at a later instant t, and what they say of a laid row's jobs.
use Rattle.std.proofs.Common.{◌≡◌, ℕ, zero, suc, ◌+◌, ◌-◌, ◌<◌, ◌≤◌, List, length, map, get_or, is_none, refl, ap, sym, ◌∙◌, subst, inl, inr, add-one, arith}
use Rattle.std.proofs.lemmas.Bool.{false≢true, true≢false}
use Rattle.std.proofs.lemmas.List.{length-map}
use Rattle.books.specs.Rows.{blank_row, come_on, job_age}
use Rattle.books.specs.declared.row.Row.{Row}
use Rattle.books.proofs.Began.{began_row}
use Rattle.deferral.proofs.Counting.{between_none}
use Rattle.deferral.specs.Free.{Free, Play, free_below, free_between, play_of}
use Rattle.deferral.specs.Laid.{LaidRow}
use Rattle.deferral.specs.declared.span.Span.{Span}
use Rattle.readings.specs.Ranges.{blank}
use Rattle.readings.specs.declared.reading.Reading.{Reading}
use Rattle.strip.proofs.Booked.{BookedRow, booked_at}
use Rattle.strip.proofs.BookedRows.{booked}
use Rattle.strip.proofs.ClosingRuns.{closing_at}
use Rattle.strip.proofs.Turns.{Turn}
use Rattle.strip.proofs.Windows.{Standing, Windows, laid_windows, later_job, not_empty, sampled_later}

module _ (play : Play) (k : ℕ) (r : Reading) (spans : ℕ → Span) (last : ℕ) (x : Windows play k r.work spans (λ j. j ≤ last)) (m t : ℕ) (later : m < t) where
  abbrev free : Free
  free = free_below play k

  abbrev Stands : ℕ → ℕ → Type 0
  Stands n j = Standing spans (λ i. i ≤ last) n j

  -- samples that are as old then and there: the later one is that of a later job
  later_by : (i j : ℕ) → i ≤ last → (spans j).sample + m ≡ (spans i).sample + t → i < j
  later_by i j c e = later_job play k r.work spans (λ a. a ≤ last) x i j c (omega arith)

  -- no job is open at either
  at_rest : (i j : ℕ) → Stands m i → Stands t j → free_between free m (spans i).deadline ≡ 0 → free_between free t (spans j).deadline ≡ 0
      → m - (spans i).sample ≡ t - (spans j).sample → Turn free spans last m t
  at_rest i j a b e g same =
      let began = a.began in
      let began' = b.began in
      let old : (spans j).sample + m ≡ (spans i).sample + t = omega arith in
      let order = later_by i j a.counts old in
      let counts = b.counts in
      record {
        i = i;
        j = j;
        order = order;
        laid = counts;
        began = omega arith;
        same = old;
        done = e;
        done_again = g;
        next = inl (record { first = a.ahead (omega arith); again = b.ahead });
      }

  -- at both a job is open that is as old, and so is the value on show
  at_work : (i j : ℕ) → Stands m (i + 1) → Stands t (j + 1) → 0 < free_between free m (spans (i + 1)).deadline
      → m - (spans (i + 1)).sample ≡ t - (spans (j + 1)).sample → m - (spans i).sample ≡ t - (spans j).sample → Turn free spans last m t
  at_work i j a b some next same =
      let began = a.began in
      let began' = b.began in
      let counts = a.counts in
      let counts' = b.counts in
      let before = sampled_later play k r.work spans (λ a. a ≤ last) x i (i + 1) (omega arith) counts in
      let before' = sampled_later play k r.work spans (λ a. a ≤ last) x j (j + 1) (omega arith) counts' in
      let over = x.apart i (i + 1) (omega arith) counts in
      let over' = x.apart j (j + 1) (omega arith) counts' in
      let old : (spans j).sample + m ≡ (spans i).sample + t = omega arith in
      record {
        i = i;
        j = j;
        order = later_by i j (omega arith) old;
        laid = omega arith;
        began = omega arith;
        same = old;
        done = between_none free m (spans i).deadline (omega arith);
        done_again = between_none free t (spans j).deadline (omega arith);
        next = inr (record { laid = counts'; same = omega arith; runs_on = not_empty free m (spans (i + 1)).deadline some });
      }

  -- equal rows
  turn_by : (i j u v : ℕ) → Stands m i → Stands t j → free_between free m (spans i).deadline ≡ u → free_between free t (spans j).deadline ≡ v
      → booked r spans m i u ≡ booked r spans t j v → Turn free spans last m t
  turn_by i j zero zero a b e g same =
      at_rest i j a b e g (ap (λ (q : Row). q.age) same)
  turn_by i j zero (suc v) a b e g same = let jobs = ap (λ (q : Row). is_none q.job) same in absurd (true≢false jobs)
  turn_by i j (suc u) zero a b e g same = let jobs = ap (λ (q : Row). is_none q.job) same in absurd (false≢true jobs)
  turn_by zero zero (suc u) (suc v) a b e g same = let ages = ap (λ (q : Row). q.age) same in absurd (omega arith)
  turn_by zero (suc j) (suc u) (suc v) a b e g same = absurd (false≢true (ap (λ (q : Row). q.shown) same))
  turn_by (suc i) zero (suc u) (suc v) a b e g same = absurd (true≢false (ap (λ (q : Row). q.shown) same))
  turn_by (suc i) (suc j) (suc u) (suc v) a b e g same =
      let jobs : m - (spans (suc i)).sample ≡ t - (spans (suc j)).sample = ap (λ (q : Row). job_age q.job) same in
      at_work i j (subst (Stands m) (sym (add-one i)) a) (subst (Stands t) (sym (add-one j)) b)
      (rw (add-one i) (omega arith)) (rw (add-one i, add-one j) jobs) (ap (λ (q : Row). q.age) same)

-- a row of books that are equal there
pub turn_of : (play : Play) (k : ℕ) (r : Reading) (spans : ℕ → Span) (last : ℕ) → Windows play k r.work spans (λ j. j ≤ last) → (m t : ℕ) → m < t → (a b : Row)
    → BookedRow play k r spans (λ j. j ≤ last) m a → BookedRow play k r spans (λ j. j ≤ last) t b → a ≡ b → Turn (free_below play k) spans last m t
turn_of play k r spans last x m t later a b p q same =
    turn_by play k r spans last x m t later p.job q.job _ _ p.standing q.standing refl refl (sym p.is ∙ same ∙ q.is)

-- a row that comes on has no value on show and no job
new_not_booked : (r : Reading) (spans : ℕ → Span) (n j left : ℕ) → come_on r ≡ booked r spans n j left → ⊥
new_not_booked r spans n j zero same = false≢true (ap (λ (q : Row). q.shown) same)
new_not_booked r spans n j (suc left) same = true≢false (ap (λ (q : Row). is_none q.job) same)

module _ (rs : List Reading) (slots : List ℕ) (limit : ℕ) (fits : limit ≤ length slots) (k : ℕ) (h : k < length rs) (up left : ℕ) (laid : LaidRow (play_of slots) k (get_or rs k blank) up left) (some : 0 < (get_or rs k blank).work) where
  abbrev rows_at : ℕ → List Row
  rows_at n = (closing_at slots limit (map come_on rs) n).rows

  abbrev reading : Reading
  reading = get_or rs k blank

  windows : Windows (play_of slots) k reading.work laid.spans (λ j. j ≤ laid.last)
  windows = laid_windows (play_of slots) k reading up left laid some

  -- a laid row of the books before slot n
  pub laid_booked : (n : ℕ) → 0 < n → n ≤ limit → BookedRow (play_of slots) k reading laid.spans (λ j. j ≤ laid.last) n (get_or (rows_at n) k blank_row)
  laid_booked n past within =
      booked_at slots limit fits (map come_on rs) k (rw (length-map rs come_on) h) reading (began_row rs k h) laid.spans (λ j. j ≤ laid.last) windows n past within

  -- what equal books say of it
  pub turns : (m t : ℕ) → 0 < m → m < t → t ≤ limit → rows_at m ≡ rows_at t → Turn (free_below (play_of slots) k) laid.spans laid.last m t
  turns m t past later within same =
      turn_of (play_of slots) k reading laid.spans laid.last windows m t later _ _ (laid_booked m past (omega arith)) (laid_booked t (omega arith) within)
      (ap (λ (xs : List Row). get_or xs k blank_row) same)

  -- books in which a slot has passed are not new ones
  pub not_new : (t : ℕ) → 0 < t → t ≤ limit → rows_at 0 ≡ rows_at t → ⊥
  not_new t past within same =
      let b = laid_booked t past within in
      let row : come_on reading ≡ booked reading laid.spans t b.job (free_between (free_below (play_of slots) k) t (laid.spans b.job).deadline) =
      sym (began_row rs k h) ∙ ap (λ (xs : List Row). get_or xs k blank_row) same ∙ b.is in
      new_not_booked reading laid.spans t b.job _ row
