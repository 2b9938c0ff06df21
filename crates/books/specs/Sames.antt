-- Rows of books that compare yes are equal.
use Rattle.std.specs.Prelude.{◌≡◌, Bool, true, false, Some, None, Option, refl}
use Rattle.std.specs.Bool.{beq}
use Rattle.std.specs.Cmp.{IsEquivalence, IsPartialEquivalence, partial_equiv_from_equiv}
use Rattle.std.specs.Option.{option_eq}
use Rattle.std.proofs.Common.{ap}
use Rattle.std.proofs.lemmas.Bool.{and_from, and_parts, eq-eqb, eqb-true}
use Rattle.readings.specs.declared.reading.Reading.{Reading}
use Rattle.policy.specs.Equalities.{equivalence}
use Rattle.books.specs.declared.row.Job.{Job}
use Rattle.books.specs.declared.row.Row.{Row}
use Rattle.books.specs.Rows.{same_job, same_reading, same_row}

reading_from : (a b : Reading) → same_reading a b ≡ true → a ≡ b
reading_from a b h =
    let i = and_parts _ _ h in
    let w = and_parts _ _ i.1 in
    let e = eqb-true a.id b.id i.0 in
    let f = eqb-true a.work b.work w.0 in
    let g = eqb-true a.validity b.validity w.1 in
    let same : ◌≡◌ {A = Reading} (record { id = a.id; work = a.work; validity = a.validity }) (record { id = b.id; work = b.work; validity = b.validity }) = cc in
    same

job_from : (a b : Option Job) → option_eq same_job a b ≡ true → a ≡ b
job_from None None h = refl
job_from None (Some k) h = cc
job_from (Some j) None h = cc
job_from (Some j) (Some k) h =
    let p = and_parts _ _ h in
    let e = eqb-true j.age k.age p.0 in
    let f = eqb-true j.left k.left p.1 in
    let same : ◌≡◌ {A = Job} (record { age = j.age; left = j.left }) (record { age = k.age; left = k.left }) = cc in
    ap (λ (x : Job). Some x) same

flag_from : (a b : Bool) → beq a b ≡ true → a ≡ b
flag_from true true h = refl
flag_from true false h = cc
flag_from false true h = cc
flag_from false false h = refl

pub row_from : (a b : Row) → same_row a b ≡ true → a ≡ b
row_from a b h =
    let p = and_parts _ _ h in
    let q = and_parts _ _ p.1 in
    let s = and_parts _ _ q.1 in
    let e = eqb-true a.age b.age p.0 in
    let f = job_from a.job b.job q.0 in
    let g = flag_from a.shown b.shown s.0 in
    let i = reading_from a.reading b.reading s.1 in
    let same : ◌≡◌ {A = Row} (record { reading = a.reading; shown = a.shown; age = a.age; job = a.job }) (record { reading = b.reading; shown = b.shown; age = b.age; job = b.job }) = cc in
    same

reading_to : (a : Reading) → same_reading a a ≡ true
reading_to a = and_from _ _ (eq-eqb a.id _ refl) (and_from _ _ (eq-eqb a.work _ refl) (eq-eqb a.validity _ refl))

job_to : (o : Option Job) → option_eq same_job o o ≡ true
job_to None = refl
job_to (Some j) = and_from _ _ (eq-eqb j.age _ refl) (eq-eqb j.left _ refl)

flag_to : (b : Bool) → beq b b ≡ true
flag_to true = refl
flag_to false = refl

pub row_to : (a : Row) → same_row a a ≡ true
row_to a = and_from _ _ (eq-eqb a.age _ refl) (and_from _ _ (job_to a.job) (and_from _ _ (flag_to a.shown) (reading_to a.reading)))

-- so the comparison of rows has the laws of one
pub row_equivalence : IsEquivalence same_row
row_equivalence = equivalence same_row row_from row_to

pub row_partial_equivalence : IsPartialEquivalence same_row
row_partial_equivalence = partial_equiv_from_equiv row_equivalence
