-- What laying makes is laid: the law, row by row.
use Rattle.std.proofs.Common.{◌≡◌, ℕ, zero, suc, ◌+◌, ◌<◌, ◌≤◌, true, Some, None, Option, Ok, Err, Result, All, List, [], ◌∷◌, length, replicate, slice_index, slice_index_or, refl, sym, ◌∙◌, subst, subst₂, inl, inr, le_of_eq, le_trans, arith}
use mathlib.Core.Path.{fun_ext}
use Rattle.std.proofs.lemmas.Bool.{and_parts, cases_Bool, cases_lt, leb-true, cond-true, cond-false}
use Rattle.std.proofs.lemmas.List.{get_or_past, get_or-replicate, length-replicate}
use Rattle.std.proofs.lemmas.List.Elements.{All-head, All-tail}
use Rattle.std.specs.List.{list_any}
use Rattle.std.specs.Option.{option_map_or}
use Rattle.readings.specs.Ranges.{WorkRange, blank}
use Rattle.readings.specs.declared.reading.Reading.{Reading}
use Rattle.deferral.proofs.Following.{Follow, follows}
use Rattle.deferral.proofs.RowLaid.{RowJobs, first_is, first_span, leaves_some, row_laid}
use Rattle.deferral.proofs.Rules.{takes_parts}
use Rattle.deferral.proofs.Strips.{Onward, UpTo, length_with, onward_more, onward_none, onward_with, runs_with, same_free, up_to_with}
use Rattle.deferral.specs.Free.{free_below, free_in, play_of}
use Rattle.deferral.specs.Jobs.{FirstJob, takes}
use Rattle.deferral.specs.Laid.{Laid, LaidRow}
use Rattle.deferral.specs.Laying.{Laying, first_deadline, is_strip_length, last_deadline, later_jobs, lay, lay_later, lay_row, lay_rows, with_jobs}
use Rattle.deferral.specs.declared.span.Span.{Span}

-- where nothing is refused, what is made of an option is made of what it holds
held : {A B E : Type 0} (g : A → Result B E) (o : Option A) (e : E) (b : B) → option_map_or g o (Err e) ≡ Ok b → (a : A) × (o ≡ Some a) × (g a ≡ Ok b)
held g None e b h = absurd (cc)
held g (Some a) e b h = (a, refl, h)

-- what holds of two parts that are made holds of them as they are called
made_so : {A B E : Type 0} (P : A → B → Type 0) (a c : A) (b d : B) → ◌≡◌ {A = Result (A × B) E} (Ok (a, b)) (Ok (c, d)) → P a b → P c d
made_so {A} {B} P a c b d e =
    let same : ◌≡◌ {A = A × B} (a, b) (c, d) = cc in
    subst (λ (p : A × B). P p.0 p.1) same

-- a row is laid on a strip xs, below the limit, and ys is the strip with it
pub record RowDone (k : ℕ) (r : Reading) (limit : ℕ) (xs ys : List ℕ) (left : ℕ) : Type 0 where
  pub long : length ys ≡ length xs
  pub up_to : UpTo (k + 1) ys
  pub onward : Onward k xs ys
  pub less : left ≤ limit
  pub some : 1 ≤ left
  -- and it stays laid when rows below it are laid
  pub law : (zs : List ℕ) → Onward (k + 1) ys zs → LaidRow (play_of zs) k r limit left

module _ (k : ℕ) (r : Reading) (some : 0 < r.work) (limit : ℕ) (xs : List ℕ) (fits : limit ≤ length xs) (u : UpTo k xs) where
  -- its first job, with deadline d, and the jobs js after it
  module _ (d : ℕ) (js : List Span) (first : FirstJob (free_in xs) r.work d) (follow : Follow (free_in xs) r.work r.validity some limit (first_span d) js) where
    -- they lie inside the strip
    inside : (n : ℕ) → list_any (λ s. takes (free_in xs) s n) (first_span d ∷ js) ≡ true → n < length xs
    inside n t =
        let j = follow.one_takes n t in
        let within = follow.within j.0 j.1 in
        let before = (takes_parts (free_in xs) _ n j.2).before in
        omega arith

    -- they stay when rows below are laid
    jobs_stay : (zs : List ℕ) → Onward (k + 1) (with_jobs (k + 1) (first_span d ∷ js) xs) zs → RowJobs (play_of zs) k r some limit d js (free_below (play_of zs) k)
    jobs_stay zs o =
        let past = onward_more k xs _ zs (onward_with k xs (first_span d ∷ js) inside) o in
        subst (RowJobs (play_of zs) k r some limit d js) (fun_ext (same_free k xs zs u past)) (record {
          first = first;
          follow = follow;
          runs = runs_with k xs (first_span d ∷ js) inside zs u o;
        })

    -- and with them the row is done
    row_done : RowDone k r limit xs (with_jobs (k + 1) (first_span d ∷ js) xs) (last_deadline (first_span d) js)
    row_done =
        let all = first_span d ∷ js in
        let ends = follow.ends in
        let within = follow.within follow.last (omega arith) in
        record {
          long = length_with k xs all inside;
          up_to = up_to_with k xs all inside u;
          onward = onward_with k xs all inside;
          less = omega arith;
          some = leaves_some (play_of (with_jobs (k + 1) all xs)) k r some limit d js (jobs_stay _ (onward_none (k + 1) _));
          law = λ zs o. row_laid (play_of zs) k r some limit d js (jobs_stay zs o);
        }

  -- so it is with what the searches find for the row
  found_done : (d : ℕ) (js : List Span) → first_deadline (free_in xs) r.work limit ≡ Some d → later_jobs limit (free_in xs) r.work r.validity limit (first_span d) ≡ Some js
      → RowDone k r limit xs (with_jobs (k + 1) (first_span d ∷ js) xs) (last_deadline (first_span d) js)
  found_done d js e g =
      let first = first_is (free_in xs) r.work limit d some e in
      let past = first.0.past_last in
      row_done d js first.0 (follows (free_in xs) r.work r.validity some limit limit (first_span d) js first.1 (omega arith) g)

  -- and so with what laying the row makes
  lays_row : (ys : List ℕ) (left : ℕ) → lay_row (k + 1) r limit xs ≡ Ok (ys, left) → RowDone k r limit xs ys left
  lays_row ys left h =
      let (d, e, g) = held (λ (d : ℕ). lay_later (k + 1) r limit xs (first_span d)) (first_deadline (free_in xs) r.work limit) _ (ys, left) h in
      let (js, i, is) = held (λ (js : List Span). Ok (with_jobs (k + 1) (first_span d ∷ js) xs, last_deadline (first_span d) js)) (later_jobs limit (free_in xs) r.work r.validity limit (first_span d)) _ (ys, left) g in
      made_so (RowDone k r limit xs) _ ys _ left is (found_done d js e i)

-- rows from row k + 1 on are laid on a strip xs, and zs is the strip with them
pub record RowsDone (k : ℕ) (rs : List Reading) (limit : ℕ) (xs zs : List ℕ) (left : ℕ) : Type 0 where
  pub long : length zs ≡ length xs
  pub up_to : UpTo (k + length rs) zs
  pub onward : Onward k xs zs
  pub less : left ≤ limit
  pub some : 1 ≤ limit → 1 ≤ left
  pub limits : ℕ → ℕ
  pub from : limits 0 ≡ limit
  pub to : limits (length rs) ≡ left
  pub rows : (i j : ℕ) → i < length rs → j ≡ k + i → LaidRow (play_of zs) j (slice_index_or rs i blank) (limits i) (limits (i + 1))

-- no rows
rows_none : (k limit : ℕ) (xs : List ℕ) → UpTo k xs → RowsDone k [] limit xs xs limit
rows_none k limit xs u =
    record {
      long = refl;
      up_to = λ n. let here = u n in omega arith;
      onward = onward_none k xs;
      less = omega arith;
      some = λ h. h;
      limits = λ i. limit;
      from = refl;
      to = refl;
      rows = λ i j h. absurd (omega arith);
    }

-- a limit, and then others
abbrev after_limit : ℕ → (ℕ → ℕ) → ℕ → ℕ
after_limit limit limits zero = limit
after_limit limit limits (suc i) = limits i

module _ (k : ℕ) (r : Reading) (rs : List Reading) (limit mid left : ℕ) (xs ys zs : List ℕ) (one : RowDone k r limit xs ys mid) (others : RowsDone (k + 1) rs mid ys zs left) where
  -- the limit of each row
  abbrev limits : ℕ → ℕ
  limits = after_limit limit others.limits

  -- each row is laid
  rows_laid : (i j : ℕ) → i < suc (length rs) → j ≡ k + i → LaidRow (play_of zs) j (slice_index_or (r ∷ rs) i blank) (limits i) (limits (i + 1))
  rows_laid zero j h e =
      let here : k ≡ j = omega arith in
      subst₂ (λ (n l : ℕ). LaidRow (play_of zs) n r limit l) here (sym others.from) (one.law zs others.onward)
  rows_laid (suc i) j h e =
      let next : suc (i + 1) ≡ suc i + 1 = omega arith in
      subst (λ (n : ℕ). LaidRow (play_of zs) j (slice_index_or rs i blank) (others.limits i) (limits n)) next (others.rows i j (omega arith) (omega arith))

  -- one row more
  rows_more : RowsDone k (r ∷ rs) limit xs zs left
  rows_more =
      record {
        long = others.long ∙ one.long;
        up_to = λ n. let all = others.up_to n in omega arith;
        onward = onward_more k xs ys zs one.onward others.onward;
        less = omega arith;
        some = λ h. others.some one.some;
        limits = limits;
        from = refl;
        to = others.to;
        rows = rows_laid;
      }

-- the rows from row k + 1 on, once the row above them is laid
abbrev and_then : (k : ℕ) → List Reading → Laying → Laying
and_then k rs (Ok laid) = lay_rows k rs laid.1 laid.0
and_then k rs (Err refusal) = Err refusal

-- if they are laid, then so is that row
above_them : (k : ℕ) (rs : List Reading) (l : Laying) (made : List ℕ × ℕ) → and_then k rs l ≡ Ok made → (laid : List ℕ × ℕ) × (l ≡ Ok laid) × (lay_rows k rs laid.1 laid.0 ≡ Ok made)
above_them k rs (Ok laid) made h = (laid, refl, h)
above_them k rs (Err refusal) made h = absurd (cc)

-- laying rows lays them
pub lays_rows : (rs : List Reading) (k limit : ℕ) (xs zs : List ℕ) (left : ℕ) → All WorkRange rs → limit ≤ length xs → UpTo k xs → lay_rows k rs limit xs ≡ Ok (zs, left) → RowsDone k rs limit xs zs left
lays_rows [] k limit xs zs left works fits u h = made_so (RowsDone k [] limit xs) xs zs limit left h (rows_none k limit xs u)
lays_rows (r ∷ rs) k limit xs zs left works fits u h =
    let work = (All-head WorkRange r rs works).0 in
    let (laid, e, g) = above_them (k + 1) rs (lay_row (k + 1) r limit xs) (zs, left) h in
    let one = lays_row k r work limit xs fits u laid.0 laid.1 e in
    let long = one.long in
    let less = one.less in
    rows_more k r rs limit laid.1 left xs laid.0 zs one (lays_rows rs (k + 1) laid.1 laid.0 zs left (All-tail WorkRange r rs works) (omega arith) one.up_to g)

-- a strip with no row on it
up_to_none : (n : ℕ) → UpTo 0 (replicate n 0)
up_to_none n m =
    let none : slice_index (replicate n 0) m ≡ 0 =
    elim (cases_lt m n) [
      | inl less ↦ get_or-replicate n m 0 0 less
      | inr past ↦ get_or_past (replicate n 0) m 0 (le_trans (le_of_eq (length-replicate n 0)) past)
    ] in
    omega arith

-- where a list is laid on n slots, n is a strip's length, and the rows are laid on an empty strip
lay_parts : (rs : List Reading) (n : ℕ) (made : List ℕ × ℕ) → lay rs n ≡ Ok made → (is_strip_length n ≡ true) × (lay_rows 0 rs n (replicate n 0) ≡ Ok made)
lay_parts rs n made h =
    let then = lay_rows 0 rs n (replicate n 0) in
    elim (cases_Bool (is_strip_length n)) [
      | inl is ↦ (is, sym (cond-true (is_strip_length n) then (Err (6, [])) is) ∙ h)
      | inr other ↦ let refused = cond-false (is_strip_length n) then (Err (6, [])) other in absurd (cc)
    ]

-- so there are 1 to 32,767 slots
pub strip_length : (rs : List Reading) (n : ℕ) (made : List ℕ × ℕ) → lay rs n ≡ Ok made → (1 ≤ n) × (n ≤ 32767)
strip_length rs n made h =
    let parts = and_parts _ _ (lay_parts rs n made h).0 in
    (leb-true 1 n parts.0, leb-true n 32767 parts.1)

module _ (rs : List Reading) (works : All WorkRange rs) (n : ℕ) (xs : List ℕ) (limit : ℕ) (h : lay rs n ≡ Ok (xs, limit)) where
  -- all rows are done, from the first one on
  done : RowsDone 0 rs n (replicate n 0) xs limit
  done = lays_rows rs 0 n (replicate n 0) xs limit works (le_of_eq (sym (length-replicate n 0))) (up_to_none n) (lay_parts rs n (xs, limit) h).1

  -- the limit that is left lies within the strip
  pub limit_range : (1 ≤ limit) × (limit ≤ n)
  limit_range = (done.some (strip_length rs n (xs, limit) h).0, done.less)

  -- what laying makes is laid
  pub laid : Laid rs n xs limit
  laid =
      record {
        long = done.long ∙ length-replicate n 0;
        limits = done.limits;
        from = done.from;
        to = done.to;
        rows = λ k l. done.rows k k l (omega arith);
        no_others = λ m. let all = done.up_to m in omega arith;
      }

-- the limits fall from row to row
pub limits_fall : (rs : List Reading) (n : ℕ) (xs : List ℕ) (limit : ℕ) (law : Laid rs n xs limit) (k : ℕ) → k < length rs → law.limits (k + 1) ≤ law.limits k
limits_fall rs n xs limit law k h =
    let row = law.rows k h in
    let leaves = row.leaves in
    let within = row.within row.last (omega arith) in
    omega arith
