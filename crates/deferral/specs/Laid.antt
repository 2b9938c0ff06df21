-- What is laid, as a law over the whole strip: which jobs each row has, and which slots they take.
use Rattle.std.specs.Prelude.{◌≡◌, ℕ, ◌+◌, ◌<◌, ◌≤◌, EachIndex, List, length, slice_index_or}
use Rattle.readings.specs.Ranges.{blank}
use Rattle.readings.specs.declared.reading.Reading.{Reading}
use Rattle.deferral.specs.Free.{Play, free_below, free_between, play_of}
use Rattle.deferral.specs.Jobs.{Jobs}
use Rattle.deferral.specs.declared.span.Span.{Span}

-- row k + 1 is laid below a limit, and leaves another: its jobs are numbered from 0 to the last
pub record LaidRow (play : Play) (k : ℕ) (r : Reading) (limit left : ℕ) : Type 0 where
  pub spans : ℕ → Span
  pub last : ℕ
  pub jobs : Jobs play k r.work r.validity spans (λ j. j ≤ last)
  -- each job has all its slots, between its sample and its deadline
  pub work : (j : ℕ) → j ≤ last
      → free_between (free_below play k) (spans j).sample (spans j).deadline ≡ r.work
  -- no slot belongs to two jobs
  pub apart : (i j : ℕ) → i < j → j ≤ last → (spans i).deadline ≤ (spans j).sample
  -- two neighbours span at most a validity
  pub spread : (j : ℕ) → j < last → (spans (j + 1)).deadline ≤ (spans j).sample + r.validity
  -- all lie below the limit that the row above left
  pub within : (j : ℕ) → j ≤ last → (spans j).deadline ≤ limit
  -- the next deadline would be past it
  pub over : limit < (spans last).sample + r.validity
  -- the row leaves the deadline of its last job as the limit
  pub leaves : left ≡ (spans last).deadline

-- all rows are laid: on n slots, each row below the limit that the row above left
pub record Laid (rs : List Reading) (n : ℕ) (slots : List ℕ) (limit : ℕ) : Type 0 where
  pub long : length slots ≡ n
  pub limits : ℕ → ℕ
  pub from : limits 0 ≡ n
  pub to : limits (length rs) ≡ limit
  pub rows : EachIndex rs (λ k.
      LaidRow (play_of slots) k (slice_index_or rs k blank) (limits k) (limits (k + 1)))
  pub no_others : (m : ℕ) → play_of slots m ≤ length rs
