-- What a row without a refusal holds, and that a row which holds it has none.
use Rattle.std.proofs.Common.{◌≡◌, ℕ, zero, suc, ◌-◌, ◌<◌, ◌≤◌, ◌≢◌, Bool, true, false, cond, not, ltb, List, [], ◌∷◌, length, get_or, slice_get, take, ◌∙◌, Some, None, sym, refl, ap, arith}
use Rattle.std.proofs.lemmas.List.{get_or-take, length-take-le}
use Rattle.std.proofs.lemmas.Option.{slice_get-get_or}
use Rattle.std.proofs.lemmas.Bool.{and_from, and_parts, eqb-false, le-leb, le-ltb, leb-true, ltb-false, ne_eqb, not-true, not_from_false, or_from, or_parts}
use Rattle.readings.proofs.Firsts.{first_clear, first_none}
use Rattle.readings.specs.declared.reading.Proposal.{Proposal}
use Rattle.readings.specs.Refusals.{Content}
use Rattle.readings.specs.Proposals.{has_id, is_in_range, is_list_length, is_new_id, is_out_of_order, no_proposal, refusal_at, rows_refusal}

-- without a refusal among the rows there is none at any row
pub unrefused : (ps : List Proposal) → None ≡ rows_refusal ps → (k : ℕ) → k < length ps → refusal_at ps k ≡ None
unrefused ps e k h = first_clear (refusal_at ps) 0 (length ps) (sym e) k (omega arith) (omega arith)

-- and where there is none at any row, there is none
pub none_refused : (ps : List Proposal) → ((k : ℕ) → k < length ps → refusal_at ps k ≡ None) → rows_refusal ps ≡ None
none_refused ps none = sym (first_none (refusal_at ps) 0 (length ps) (λ k h. none k (omega arith)))

-- what a row without a refusal holds
pub record Sound (ps : List Proposal) (k : ℕ) : Type 0 where
  pub id_low : 1 ≤ (get_or ps k no_proposal).id
  pub id_high : (get_or ps k no_proposal).id ≤ 65535
  pub id_new : has_id (get_or ps k no_proposal).id (take k ps) ≡ false
  pub work_low : 1 ≤ (get_or ps k no_proposal).work
  pub work_high : (get_or ps k no_proposal).work ≤ 255
  pub validity_low : 2 ≤ (get_or ps k no_proposal).validity
  pub validity_high : (get_or ps k no_proposal).validity ≤ 4095
  pub work_fits : (get_or ps k no_proposal).work ≤ (get_or ps k no_proposal).validity
  pub ordered : (get_or ps (k - 1) no_proposal).validity ≤ (get_or ps k no_proposal).validity

chain : (a b c : Bool) (x y z : Content) → cond (not a) (Some x) (cond (not b) (Some y) (cond c (Some z) None)) ≡ None → (a ≡ true) × (b ≡ true) × (c ≡ false)
chain true true false x y z h = (refl, refl, refl)
chain true true true x y z h = let w : ◌≡◌ {A = ℕ} 0 1 = cc in absurd (omega arith)
chain true false c x y z h = let w : ◌≡◌ {A = ℕ} 0 1 = cc in absurd (omega arith)
chain false b c x y z h = let w : ◌≡◌ {A = ℕ} 0 1 = cc in absurd (omega arith)

-- the validity of the last row above a row that has one
last_above : (ps : List Proposal) (j : ℕ) → suc j < length ps → is_out_of_order (take (suc j) ps) (get_or ps (suc j) no_proposal) ≡ ltb (get_or ps (suc j) no_proposal).validity (get_or ps j no_proposal).validity
last_above ps j h =
    let n = length-take-le (suc j) ps (omega arith) in
    let last : length (take (suc j) ps) - 1 ≡ j = omega arith in
    let is : slice_get (take (suc j) ps) j ≡ Some (get_or ps j no_proposal) = slice_get-get_or (take (suc j) ps) j no_proposal (omega arith) ∙ ap Some (get_or-take (suc j) ps j no_proposal (omega arith)) in
    rw (last, is)

-- a row is not out of order exactly when it has at least the validity of the last row above
in_order : (ps : List Proposal) (k : ℕ) → k < length ps → is_out_of_order (take k ps) (get_or ps k no_proposal) ≡ false → (get_or ps (k - 1) no_proposal).validity ≤ (get_or ps k no_proposal).validity
in_order ps zero h e = omega arith
in_order ps (suc j) h e =
    let same : suc j - 1 ≡ j = omega arith in
    rw same (ltb-false _ _ (sym (last_above ps j h) ∙ e))

from_order : (ps : List Proposal) (k : ℕ) → k < length ps → (get_or ps (k - 1) no_proposal).validity ≤ (get_or ps k no_proposal).validity → is_out_of_order (take k ps) (get_or ps k no_proposal) ≡ false
from_order ps zero h l = refl
from_order ps (suc j) h l =
    let same : suc j - 1 ≡ j = omega arith in
    last_above ps j h ∙ le-ltb _ _ (rw same at l)

pub sound : (ps : List Proposal) (k : ℕ) → k < length ps → refusal_at ps k ≡ None → Sound ps k
sound ps k inside h =
    let it = get_or ps k no_proposal in
    let t = chain (is_in_range it) (is_new_id it.id (take k ps)) (is_out_of_order (take k ps) it) _ _ _ h in
    let a = and_parts _ _ t.0 in
    let b = and_parts _ _ a.1 in
    let d = and_parts _ _ b.1 in
    let e = and_parts _ _ d.1 in
    let i = and_parts _ _ t.1 in
    let j = and_parts _ _ i.1 in
    record {
      id_low = leb-true _ _ i.0;
      id_high = leb-true _ _ j.0;
      id_new = not-true _ j.1;
      work_low = leb-true _ _ a.0;
      work_high = leb-true _ _ b.0;
      validity_low = leb-true _ _ d.0;
      validity_high = leb-true _ _ e.0;
      work_fits = leb-true _ _ e.1;
      ordered = in_order ps k inside t.2;
    }

-- a row that holds all of it has no refusal
pub from_sound : (ps : List Proposal) (k : ℕ) → k < length ps → Sound ps k → refusal_at ps k ≡ None
from_sound ps k inside s =
    let it = get_or ps k no_proposal in
    let range : is_in_range it ≡ true = and_from _ _ (le-leb _ _ s.work_low) (and_from _ _ (le-leb _ _ s.work_high) (and_from _ _ (le-leb _ _ s.validity_low) (and_from _ _ (le-leb _ _ s.validity_high) (le-leb _ _ s.work_fits)))) in
    let new : is_new_id it.id (take k ps) ≡ true = and_from _ _ (le-leb _ _ s.id_low) (and_from _ _ (le-leb _ _ s.id_high) (not_from_false _ s.id_new)) in
    let order : is_out_of_order (take k ps) it ≡ false = from_order ps k inside s.ordered in
    rw (range, new, order)

-- no row has an id that is not there
pub not_there : (i : ℕ) (ps : List Proposal) → has_id i ps ≡ false → (j : ℕ) → j < length ps → (get_or ps j no_proposal).id ≢ i
not_there i [] h j l e = omega arith
not_there i (p ∷ ps) h zero l e = eqb-false _ _ (or_parts _ _ h).0 e
not_there i (p ∷ ps) h (suc j) l e = not_there i ps (or_parts _ _ h).1 j (omega arith) e

-- an id that no row has is not there
pub nowhere : (i : ℕ) (ps : List Proposal) → ((j : ℕ) → j < length ps → (get_or ps j no_proposal).id ≢ i) → has_id i ps ≡ false
nowhere i [] h = refl
nowhere i (p ∷ ps) h = or_from _ _ (ne_eqb _ _ (h 0 (omega arith))) (nowhere i ps (λ j l. h (suc j) (omega arith)))

-- how many rows a list has
pub counted : (n : ℕ) → true ≡ is_list_length n → (1 ≤ n) × (n ≤ 16)
counted n e = let both = and_parts _ _ (sym e) in (leb-true _ _ both.0, leb-true _ _ both.1)
