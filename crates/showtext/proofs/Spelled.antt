-- The plan script of a list makes the strip that is laid for the list.
use Rattle.std.proofs.Common.{◌≡◌, ℕ, ◌+◌, ◌*◌, ◌≤◌, true, false, not, List, [], ◌∷◌, ◌++◌, length, get_or, map, All, codes, decimal, Some, None, Ok, Err, Result, ok_or, inl, inr, refl, ap, ◌∙◌, arith, append_assoc, ◌==◌}
use Rattle.std.specs.List.{flat_map, list_all}
use Rattle.std.proofs.lemmas.Bool.{cases_Bool, le-leb}
use Rattle.std.proofs.lemmas.Bool.Decides.{nat_tests}
use Rattle.std.proofs.lemmas.Fmt.{length-decimal-le}
use Rattle.std.proofs.lemmas.List.{append-nil, length-append, length-map}
use Rattle.std.proofs.lemmas.List.Elements.{All-append, All-cons, All-head, All-tail}
use Rattle.std.proofs.lemmas.List.Sums.{AllPass-from_list_all}
use Rattle.std.proofs.lemmas.List.Splits.{length-slice_split, slice_split_at, slice_split_none}
use Rattle.readings.proofs.Kept.{unrefused_rows}
use Rattle.readings.specs.Proposals.{is_list_length, kept, list_refusal}
use Rattle.readings.specs.Ranges.{WellMade}
use Rattle.readings.specs.Refusals.{Content}
use Rattle.readings.specs.declared.reading.Proposal.{Proposal}
use Rattle.readings.specs.declared.reading.Reading.{Reading}
use Rattle.lines.specs.Pieces.{pieces}
use Rattle.lines.specs.Words.{command_of, command_of_pieces}
use Rattle.lines.specs.declared.command.Command.TheVariants.{Plan}
use Rattle.lines.specs.declared.command.PlanLine.TheVariants as line
use Rattle.strip.specs.Strips.{Strip, laid_strip}
use Rattle.showtext.specs.Scripted.{Ended, command_before, plan_ended, plan_strip, rows_ended, scripted, strip_made, with_end}
use Rattle.showtext.specs.Spelled.{defer_line, plan_script}
use Rattle.showtext.specs.Told.{row_line}
use Rattle.showtext.proofs.Numbers.{none_in_decimal, numeral_decimal}

-- the numbers of a row that a script can spell
record Small (r : Reading) : Type 0 where
  id : r.id ≤ 65535
  work : r.work ≤ 65535
  validity : r.validity ≤ 65535

-- the row as a script gives it
abbrev given_of : Reading → Proposal
given_of r = record { id = r.id; work = r.work; validity = r.validity }

-- a line without the byte that ends it
abbrev row_words : Reading → List ℕ
row_words r = codes "reading " ++ (decimal r.id ++ 32 ∷ (decimal r.work ++ 32 ∷ decimal r.validity))

-- the line that ends a plan, without the byte that ends it
abbrev defer_words : ℕ → List ℕ
defer_words n = codes "defer " ++ decimal n

-- a byte that is no digit, and stands in none of these words
abbrev Absent : (c : ℕ) → List ℕ → Type 0
Absent c bytes = All (λ b. (b == c) ≡ false) bytes

-- what is told of a row is such a line, with that byte
row_line_is : (r : Reading) → row_line r ≡ row_words r ++ 10 ∷ []
row_line_is r = simp append_assoc

-- what a test says of bytes that are written out
absent : (c : ℕ) (bytes : List ℕ) → list_all (λ b. not (b == c)) bytes ≡ true → Absent c bytes
absent c bytes e k d within =
    let passes = AllPass-from_list_all (λ b. not (b == c)) bytes e k d within in
    elim (cases_Bool (get_or bytes k d == c)) [ inl here ↦ absurd (let never = rw here at passes in cc) | inr other ↦ other ]

-- a number, a space, and what stands behind it
number_pieces : (n : ℕ) (behind : List ℕ) → n ≤ 65535 → pieces 32 (decimal n ++ 32 ∷ behind) ≡ decimal n ∷ pieces 32 behind
number_pieces n behind small =
    slice_split_at (λ b. b == 32) (decimal n) 32 behind (none_in_decimal 32 n (omega arith) (omega arith)) refl

-- a number with nothing behind it
last_number : (n : ℕ) → n ≤ 65535 → pieces 32 (decimal n) ≡ decimal n ∷ []
last_number n small = slice_split_none (λ b. b == 32) (decimal n) (none_in_decimal 32 n (omega arith) (omega arith))

-- the pieces of the line of a row
row_pieces : (r : Reading) → Small r
    → pieces 32 (row_words r) ≡ codes "reading" ∷ decimal r.id ∷ decimal r.work ∷ decimal r.validity ∷ []
row_pieces r small =
    rw (
      number_pieces r.id (decimal r.work ++ 32 ∷ decimal r.validity) small.id,
      number_pieces r.work (decimal r.validity) small.work,
      last_number r.validity small.validity,
    ) refl

-- those of the line that ends a plan
defer_pieces : (n : ℕ) → n ≤ 65535 → pieces 32 (defer_words n) ≡ codes "defer" ∷ decimal n ∷ []
defer_pieces n small = rw (last_number n small) refl

-- a number has at most five digits
short : (n : ℕ) → n ≤ 65535 → length (decimal n) ≤ 5
short n small = length-decimal-le 5 n (omega arith) (omega arith) (omega arith)

-- the line of a row is short
length_row_words : (r : Reading) → Small r → length (row_words r) ≤ 25
length_row_words r small =
    let id = short r.id small.id in
    let work = short r.work small.work in
    let validity = short r.validity small.validity in
    simp length-append (omega arith)

-- a line of at most 80 bytes has the command that its pieces make
short_command : (bytes : List ℕ) → length bytes ≤ 80 → command_of bytes ≡ command_of_pieces (pieces 32 bytes)
short_command bytes few = rw (le-leb (length bytes) 80 few) refl

-- the line of a row is read as that row
row_command : (r : Reading) → Small r → command_of (row_words r) ≡ Some (Plan (line.Reading r.id r.work r.validity))
row_command r small =
    let long = length_row_words r small in
    short_command (row_words r) (omega arith) ∙ ap command_of_pieces (row_pieces r small)
    ∙ rw (numeral_decimal r.id small.id, numeral_decimal r.work small.work, numeral_decimal r.validity small.validity) refl

-- the line that ends a plan is read as its end
defer_command : (n : ℕ) → n ≤ 65535 → command_of (defer_words n) ≡ Some (Plan (line.Defer n))
defer_command n small =
    let long = short n small in
    short_command (defer_words n) (simp length-append (omega arith))
    ∙ ap command_of_pieces (defer_pieces n small)
    ∙ rw (numeral_decimal n small) refl

-- no byte 10 stands in a line
row_alone : (r : Reading) → Small r → Absent 10 (row_words r)
row_alone r small =
    let ten = λ (b : ℕ). (b == 10) ≡ false in
    All-append ten (codes "reading ") _ (absent 10 (codes "reading ") refl)
    (All-append ten (decimal r.id) _ (none_in_decimal 10 r.id (omega arith) (omega arith))
    (All-cons ten 32 _ refl
    (All-append ten (decimal r.work) _ (none_in_decimal 10 r.work (omega arith) (omega arith))
    (All-cons ten 32 _ refl (none_in_decimal 10 r.validity (omega arith) (omega arith))))))

-- the pieces of a line, and of what stands behind it
row_ends : (r : Reading) → Small r → (behind : List ℕ) → pieces 10 (row_line r ++ behind) ≡ row_words r ∷ pieces 10 behind
row_ends r small behind =
    ap (λ bytes. pieces 10 (bytes ++ behind)) (row_line_is r)
    ∙ ap (pieces 10) (append_assoc (row_words r) (10 ∷ []) behind)
    ∙ slice_split_at (λ b. b == 10) (row_words r) 10 behind (row_alone r small) refl

-- nor in the one that ends a plan
end_alone : (n : ℕ) → n ≤ 65535 → Absent 10 (defer_words n)
end_alone n small =
    All-append (λ b. (b == 10) ≡ false) (codes "defer ") (decimal n) (absent 10 (codes "defer ") refl)
    (none_in_decimal 10 n (omega arith) (omega arith))

-- nothing stands behind that one
end_ends : (n : ℕ) → n ≤ 65535 → pieces 10 (defer_line n) ≡ defer_words n ∷ [] ∷ []
end_ends n small = slice_split_at (λ b. b == 10) (defer_words n) 10 [] (end_alone n small) refl

-- a line with a text behind it is not cut short
command_there : (line text : List ℕ) → command_before (pieces 10 text) line ≡ ok_or (command_of line) (24, [])
command_there line text = go _ (pieces 10 text) (length-slice_split (λ b. b == 10) text) where
  go : (n : ℕ) (ps : List (List ℕ)) → length ps ≡ n + 1 → command_before ps line ≡ ok_or (command_of line) (24, [])
  go n [] e = absurd (omega arith)
  go n (p ∷ ps) e = refl

-- a line of a row adds it to the plan
row_added : (r : Reading) → Small r → (given : List Proposal) (text : List ℕ)
    → rows_ended given (row_words r ∷ pieces 10 text) ≡ rows_ended (given ++ given_of r ∷ []) (pieces 10 text)
row_added r small given text = rw (command_there (row_words r) text, row_command r small) refl

-- a plan of these readings that has ended, with nothing behind it
abbrev ended : (given : List Proposal) → (n : ℕ) → Ended
ended given n = record { given = given; slots = n; behind = [] ∷ [] }

-- lines of rows, and the end of a plan
rows_end : (n : ℕ) → n ≤ 65535 → (rows : List Reading) → All Small rows → (given : List Proposal)
    → rows_ended given (pieces 10 (flat_map row_line rows ++ defer_line n)) ≡ Ok (ended (given ++ map given_of rows) n)
rows_end n small [] each given =
    ap (rows_ended given) (end_ends n small) ∙ rw (defer_command n small, append-nil given) refl
rows_end n small (r ∷ rows) each given =
    let here = All-head Small r rows each in
    let more = flat_map row_line rows ++ defer_line n in
    ap (λ text. rows_ended given (pieces 10 text)) (append_assoc (row_line r) (flat_map row_line rows) (defer_line n))
    ∙ ap (rows_ended given) (row_ends r here more)
    ∙ row_added r here given more
    ∙ rows_end n small rows (All-tail Small r rows each) (given ++ given_of r ∷ [])
    ∙ ap (λ all. Ok (ended all n)) (append_assoc given (given_of r ∷ []) (map given_of rows))

-- the whole plan
plan_end : (n : ℕ) → n ≤ 65535 → (rows : List Reading) → All Small rows
    → plan_ended (pieces 10 (plan_script rows n)) ≡ Ok (ended (map given_of rows) n)
plan_end n small rows each =
    let behind = flat_map row_line rows ++ defer_line n in
    rw (command_there (codes "plan") behind) (rows_end n small rows each [])

-- the numbers of a list are small
small_rows : (rows : List Reading) → WellMade rows → All Small rows
small_rows rows w k d within =
    let id = w.ids k d within in
    let work = w.works k d within in
    let validity = w.validities k d within in
    record { id = omega arith; work = omega arith; validity = omega arith }

-- what is given of rows is kept as those rows
kept_given : (rows : List Reading) → map kept (map given_of rows) ≡ rows
kept_given [] = refl
kept_given (r ∷ rows) = ap (λ more. r ∷ more) (kept_given rows)

-- a list is not refused
unrefused : (rows : List Reading) → WellMade rows → list_refusal (map given_of rows) ≡ None
unrefused rows w =
    let given = map given_of rows in
    let made : WellMade (map kept given) = rw (kept_given rows) w in
    let same = length-map rows given_of in
    let counted : is_list_length (length given) ≡ true = grind (arith, nat_tests) in
    rw counted (unrefused_rows given made)

-- its plan makes the strip that is laid for it
strip_planned : (n : ℕ) (rows : List Reading) → WellMade rows → plan_strip (map given_of rows) n ≡ laid_strip rows n
strip_planned n rows w = rw (unrefused rows w) (ap (λ all. laid_strip all n) (kept_given rows))

-- nothing stands behind it
ends : (s : Result Strip Content) → with_end ([] ∷ []) s ≡ s
ends (Ok s) = refl
ends (Err refusal) = refl

-- the lines of few rows are short
length_rows : (rows : List Reading) → All Small rows → length (flat_map row_line rows) ≤ 26 * length rows
length_rows [] each = omega arith
length_rows (r ∷ rows) each =
    let here = All-head Small r rows each in
    let id = short r.id here.id in
    let work = short r.work here.work in
    let validity = short r.validity here.validity in
    let more = length_rows rows (All-tail Small r rows each) in
    simp length-append (omega arith)

-- so is the whole script of a list
length_script : (n : ℕ) (rows : List Reading) → n ≤ 65535 → WellMade rows → length (plan_script rows n) ≤ 16384
length_script n rows small w =
    let lines = length_rows rows (small_rows rows w) in
    let few = w.few in
    let digits = short n small in
    simp length-append (omega arith)

-- the script of a list makes the strip that is laid for it
pub script_makes : (n : ℕ) (rows : List Reading) → n ≤ 65535 → WellMade rows → scripted (plan_script rows n) ≡ laid_strip rows n
script_makes n rows small w =
    rw (le-leb (length (plan_script rows n)) 16384 (length_script n rows small w))
    (ap strip_made (plan_end n small rows (small_rows rows w)) ∙ ends (plan_strip (map given_of rows) n) ∙ strip_planned n rows w)
