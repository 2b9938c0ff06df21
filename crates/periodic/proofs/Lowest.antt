-- The lowest row with work left, looked for from the first row on.
use Rattle.std.proofs.Common.{◌≡◌, ℕ, zero, suc, ◌+◌, ◌<◌, ◌≤◌, List, [], ◌∷◌, ◌++◌, length, get_or, take, drop, set, refl, append_assoc, append-nil, add-one, arith}
use Rattle.std.proofs.lemmas.List.{drop_all, drop_more, set_split, take_all, take_more}
use Rattle.std.proofs.lemmas.Bool.{le-ltb, lt-ltb}
use Rattle.periodic.specs.declared.phase.Phase.{Phase}
use Rattle.periodic.specs.Phases.{blank_phase, lowest, number_below, run_lowest, worked}

-- a row counted past k others, or 0 for none
abbrev past : ℕ → ℕ → ℕ
past k zero = zero
past k (suc n) = k + suc n

past_none : (n : ℕ) → n ≡ past 0 n
past_none zero = refl
past_none (suc n) = omega arith

past_below : (k n : ℕ) → past k (number_below n) ≡ past (k + 1) n
past_below k zero = refl
past_below k (suc n) = omega arith

-- the first k rows have no work left, so that what counts is past them
abbrev pub IdleBelow : ℕ → List Phase → Type 0
IdleBelow k rows = (lowest rows ≡ past k (lowest (drop k rows))) × (run_lowest rows ≡ take k rows ++ run_lowest (drop k rows))

pub idle_none : (rows : List Phase) → IdleBelow 0 rows
idle_none rows = (past_none (lowest rows), refl)

pub idle_more : (k : ℕ) (rows : List Phase) → k < length rows → (get_or rows k blank_phase).left ≤ 0 → IdleBelow k rows → IdleBelow (k + 1) rows
idle_more k rows h z i =
    let t = le-ltb 0 (get_or rows k blank_phase).left z in
    let d = drop_more rows k blank_phase h in
    let m = take_more rows k blank_phase h in
    let p = past_below k (lowest (drop (k + 1) rows)) in
    let a = append_assoc (take k rows) (get_or rows k blank_phase ∷ []) (run_lowest (drop (k + 1) rows)) in
    (cc, cc)

-- the row past them has work left, and runs
pub idle_ends : (k : ℕ) (rows : List Phase) → k < length rows → 0 < (get_or rows k blank_phase).left → IdleBelow k rows
    → (k + 1 ≡ lowest rows) × (set rows k (worked (get_or rows k blank_phase)) ≡ run_lowest rows)
idle_ends k rows h z i =
    let x : Phase = get_or rows k blank_phase in
    let t = lt-ltb 0 x.left z in
    let d = drop_more rows k blank_phase h in
    let s = set_split rows k (worked x) h in
    let n = add-one k in
    (cc, cc)

-- no row has work left
pub idle_all : (k : ℕ) (rows : List Phase) → length rows ≤ k → IdleBelow k rows → (0 ≡ lowest rows) × (rows ≡ run_lowest rows)
idle_all k rows h i =
    let d = drop_all k rows h in
    let t = take_all k rows h in
    let n = append-nil rows in
    (cc, cc)
