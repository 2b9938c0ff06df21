-- Positions that compare yes are equal.
use Rattle.std.specs.Prelude.{◌≡◌, ℕ, Bool, true, ◌&&◌, List, ◌==◌, refl}
use Rattle.std.proofs.Common.{Decides, ap, sym, ◌∙◌}
use Rattle.std.proofs.lemmas.Bool.{and_from, and_parts, eq-eqb, eqb-true}
use Rattle.std.proofs.lemmas.Slice.Eq.{slice_eq-Decides}
use Rattle.std.specs.Cmp.Lexicographic.{pointwise}
use Rattle.strip.specs.Positions.{Position}
use Rattle.strip.specs.declared.work.RowWork.{RowWork}

-- all that is kept of a row is equal
abbrev pub same_work : RowWork → RowWork → Bool
same_work v w = v.work == w.work && v.left == w.left

-- the work of all rows is equal, and there are as many rows
abbrev pub same_works : List RowWork → List RowWork → Bool
same_works = pointwise same_work

-- all slots are equal, and there are as many
abbrev pub same_slots : List ℕ → List ℕ → Bool
same_slots = pointwise ◌==◌

-- the places, the work of all rows and the loops are equal
abbrev pub same_numbers : Position → Position → Bool
same_numbers p q =
    p.place == q.place
    && (same_works p.rows q.rows && (p.first == q.first && p.last == q.last))

-- and so are the slots
abbrev pub same_position : Position → Position → Bool
same_position p q = same_numbers p q && same_slots p.slots q.slots

work_from_same : (v w : RowWork) → same_work v w ≡ true → v ≡ w
work_from_same v w h =
    let p = and_parts _ _ h in
    let e = eqb-true v.work w.work p.0 in
    let f = eqb-true v.left w.left p.1 in
    let same : ◌≡◌ {A = RowWork}
    (record { work = v.work; left = v.left }) (record { work = w.work; left = w.left })
    = cc in
    same

work_to_same : (w : RowWork) → same_work w w ≡ true
work_to_same w = and_from _ _ (eq-eqb w.work _ refl) (eq-eqb w.left _ refl)

same_work_decides : (v w : RowWork) → Decides (same_work v w) (v ≡ w)
same_work_decides v w = (work_from_same v w, λ e. ap (same_work v) (sym e) ∙ work_to_same v)

works_decide : (vs ws : List RowWork) → Decides (same_works vs ws) (vs ≡ ws)
works_decide vs ws = slice_eq-Decides same_work_decides vs ws (same_works vs ws) refl

same_slot_decides : (x y : ℕ) → Decides (x == y) (x ≡ y)
same_slot_decides x y = (eqb-true x y, eq-eqb x y)

slots_decide : (xs ys : List ℕ) → Decides (same_slots xs ys) (xs ≡ ys)
slots_decide xs ys = slice_eq-Decides same_slot_decides xs ys (same_slots xs ys) refl

-- positions that compare yes are equal
pub position_from_same : (p q : Position) → same_position p q ≡ true → p ≡ q
position_from_same p q h =
    let both = and_parts _ _ h in
    let a = and_parts _ _ both.0 in
    let b = and_parts _ _ a.1 in
    let d = and_parts _ _ b.1 in
    let place = eqb-true p.place q.place a.0 in
    let rows = (works_decide p.rows q.rows).0 b.0 in
    let first = eqb-true p.first q.first d.0 in
    let last = eqb-true p.last q.last d.1 in
    let slots = (slots_decide p.slots q.slots).0 both.1 in
    let same : ◌≡◌ {A = Position}
    (record { slots = p.slots; first = p.first; last = p.last; place = p.place; rows = p.rows })
    (record { slots = q.slots; first = q.first; last = q.last; place = q.place; rows = q.rows })
    = cc in
    same

pub position_to_same : (p : Position) → same_position p p ≡ true
position_to_same p =
    and_from _ _
    (and_from _ _ (eq-eqb p.place _ refl)
    (and_from _ _ ((works_decide p.rows p.rows).1 refl)
    (and_from _ _ (eq-eqb p.first _ refl) (eq-eqb p.last _ refl))))
    ((slots_decide p.slots p.slots).1 refl)

-- the comparison says yes exactly when both are equal
pub positions_decide : (p q : Position) → Decides (same_position p q) (p ≡ q)
positions_decide p q = (
  position_from_same p q,
  λ e. ap (same_position p) (sym e) ∙ position_to_same p,
)
