-- What laying makes of the first bytes of a memory.
use Rattle.std.proofs.Common.{◌≡◌, ◌≢◌, ℕ, ◌+◌, ◌≤◌, List, [], ◌∷◌, ◌++◌, drop, length, length-append, replicate, take, Some, None, Ok, Err, Option, sym, ap, ◌∙◌, arith}
use Rattle.std.specs.Option.{option_map_or}
use Rattle.std.proofs.lemmas.Bool.{and_from, cond-true, le-leb}
use Rattle.std.proofs.Math.Seq.{take-append_seam}
use Rattle.std.proofs.lemmas.List.{length-take-le}
use Rattle.readings.specs.Ranges.{WellMade}
use Rattle.readings.specs.Refusals.{Content}
use Rattle.readings.specs.declared.reading.Reading.{Reading}
use Rattle.deferral.specs.Free.{free_in}
use Rattle.deferral.specs.Laying.{Laying, first_deadline, is_strip_length, last_deadline, later_jobs, lay, lay_later, lay_row, lay_rows, with_jobs}
use Rattle.strip.specs.LaidIn.{LaidIn}
use Rattle.deferral.specs.declared.span.Span.{Span}

-- what is made of an option is refused as its value is, or as none is
of_option : {A : Type 0} (g : A → Laying) (o : Option A) (e x : Content) → ((a : A) → g a ≡ Err x → x.0 ≢ 6) → e.0 ≢ 6 → option_map_or g o (Err e) ≡ Err x → x.0 ≢ 6
of_option g (Some a) e x held other h = held a h
of_option g None e x held other h = let same : e ≡ x = cc in λ z. other (ap (λ (y : Content). y.0) same ∙ z)

later_refused : (row : ℕ) (r : Reading) (limit : ℕ) (xs : List ℕ) (s : Span) (x : Content) → lay_later row r limit xs s ≡ Err x → x.0 ≢ 6
later_refused row r limit xs s x =
    of_option (λ (js : List Span). Ok (with_jobs row (s ∷ js) xs, last_deadline s js)) (later_jobs limit (free_in xs) r.work r.validity limit s) (8, row ∷ []) x (λ js h. absurd (cc)) (λ e. omega arith)

row_refused : (row : ℕ) (r : Reading) (limit : ℕ) (xs : List ℕ) (x : Content) → lay_row row r limit xs ≡ Err x → x.0 ≢ 6
row_refused row r limit xs x =
    of_option (λ (d : ℕ). lay_later row r limit xs (record { sample = 0; deadline = d })) (first_deadline (free_in xs) r.work limit) (7, row ∷ []) x (λ d. later_refused row r limit xs (record { sample = 0; deadline = d }) x) (λ e. omega arith)

-- what is made of a strip on which the row above is laid
abbrev and_then : (k : ℕ) → List Reading → Laying → Laying
and_then k rs (Ok laid) = lay_rows k rs laid.1 laid.0
and_then k rs (Err refusal) = Err refusal

-- is refused as that row is, or as the rows below it are
below_refused : (k : ℕ) (rs : List Reading) (l : Laying) (x : Content) → (l ≡ Err x → x.0 ≢ 6) → ((laid : List ℕ × ℕ) → lay_rows k rs laid.1 laid.0 ≡ Err x → x.0 ≢ 6) → and_then k rs l ≡ Err x → x.0 ≢ 6
below_refused k rs (Ok laid) x above below h = below laid h
below_refused k rs (Err refusal) x above below h = above h

rows_refused : (rs : List Reading) (k limit : ℕ) (xs : List ℕ) (x : Content) → lay_rows k rs limit xs ≡ Err x → x.0 ≢ 6
rows_refused [] k limit xs x h = absurd (cc)
rows_refused (r ∷ rs) k limit xs x h =
    below_refused (k + 1) rs (lay_row (k + 1) r limit xs) x (row_refused (k + 1) r limit xs x) (λ laid. rows_refused rs (k + 1) laid.1 laid.0 x) h

-- the first n bytes of a memory are never refused for their number, if it is 1 to 32,767
pub length_kept : (rs : List Reading) (memory : List ℕ) (n : ℕ) (x : Content) → 1 ≤ n → n ≤ 32767 → n ≤ length memory → lay rs (length (take n memory)) ≡ Err x → x ≢ (6, [])
length_kept rs memory n x some few room h e =
    let fitting = and_from _ _ (le-leb 1 n some) (le-leb n 32767 few) in
    let long = length-take-le n memory room in
    rows_refused rs 0 n (replicate n 0) x (sym (cond-true (is_strip_length n) _ _ fitting) ∙ ap (lay rs) (sym long) ∙ h) (ap (λ (y : Content). y.0) e)

-- and if they are laid, they are so in the memory
pub laid_in : (rs : List Reading) (memory new : List ℕ) (n limit : ℕ) → WellMade rs → n ≤ length memory → length new ≡ length (take n memory) → lay rs (length (take n memory)) ≡ Ok (new, limit)
    → LaidIn rs (new ++ drop n memory) n limit
laid_in rs memory new n limit well room as_long h =
    let long = length-take-le n memory room in
    let same : length new ≡ n = omega arith in
    record {
      list = well;
      room = omega (arith, length-append new (drop n memory));
      laid = ap (lay rs) (sym long) ∙ h ∙ ap (λ (xs : List ℕ). Ok (xs, limit)) (sym (ap (λ (m : ℕ). take m (new ++ drop n memory)) (sym same) ∙ take-append_seam new (drop n memory)));
    }
