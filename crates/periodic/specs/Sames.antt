-- Phases that compare yes are equal.
use Rattle.std.specs.Prelude.{◌≡◌, true, List, refl}
use Rattle.std.specs.Cmp.{IsEquivalence, IsPartialEquivalence, partial_equiv_from_equiv}
use Rattle.std.proofs.Common.{Decides, ap, sym, ◌∙◌}
use Rattle.std.proofs.lemmas.Bool.{and_from, and_parts, eq-eqb, eqb-true}
use Rattle.std.proofs.lemmas.Slice.Eq.{slice_eq-Decides}
use Rattle.periodic.specs.declared.phase.Phase.{Phase}
use Rattle.periodic.specs.Phases.{same_phase, same_phases, same_timing}
use Rattle.planner.specs.declared.timing.Timing.{Timing}
use Rattle.policy.specs.Equalities.{equivalence}

timing_from_same : (t u : Timing) → same_timing t u ≡ true → t ≡ u
timing_from_same t u h =
    let p = and_parts _ _ h in
    let e = eqb-true t.work u.work p.0 in
    let f = eqb-true t.period u.period p.1 in
    let same : ◌≡◌ {A = Timing}
    (record { work = t.work; period = t.period }) (record { work = u.work; period = u.period })
    = cc in
    same

phase_from_same : (a b : Phase) → same_phase a b ≡ true → a ≡ b
phase_from_same a b h =
    let t = and_parts _ _ h in
    let u = and_parts _ _ t.1 in
    let e = timing_from_same a.timing b.timing t.0 in
    let g = eqb-true a.until b.until u.0 in
    let i = eqb-true a.left b.left u.1 in
    let same : ◌≡◌ {A = Phase}
    (record { timing = a.timing; until = a.until; left = a.left })
    (record { timing = b.timing; until = b.until; left = b.left })
    = cc in
    same

phase_to_same : (a : Phase) → same_phase a a ≡ true
phase_to_same a =
    and_from _ _
    (and_from _ _ (eq-eqb a.timing.work _ refl) (eq-eqb a.timing.period _ refl))
    (and_from _ _ (eq-eqb a.until _ refl) (eq-eqb a.left _ refl))

-- so the comparison of phases has the laws of one
pub phase_equivalence : IsEquivalence same_phase
phase_equivalence = equivalence same_phase phase_from_same phase_to_same

pub phase_partial_equivalence : IsPartialEquivalence same_phase
phase_partial_equivalence = partial_equiv_from_equiv phase_equivalence

same_phase_decides : (a b : Phase) → Decides (same_phase a b) (a ≡ b)
same_phase_decides a b = (phase_from_same a b, λ e. ap (same_phase a) (sym e) ∙ phase_to_same a)

-- the comparison says yes exactly when all phases are equal
pub phases_decide : (xs ys : List Phase) → Decides (same_phases xs ys) (xs ≡ ys)
phases_decide xs ys = slice_eq-Decides same_phase_decides xs ys (same_phases xs ys) refl

pub phases_from_same : (xs ys : List Phase) → same_phases xs ys ≡ true → xs ≡ ys
phases_from_same xs ys = (phases_decide xs ys).0
