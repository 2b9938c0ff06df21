-- Rows taken by their places.
use Rattle.std.proofs.Common.{◌≡◌, ℕ, zero, suc, ◌+◌, ◌<◌, Bool, cond, Some, Option, List, [], ◌∷◌, ◌++◌, length, get_or, take, drop, set, refl, ap, ◌∙◌, append_assoc, arith}
use Rattle.std.proofs.lemmas.List.{at_drop_more, drop-set-lt, take_more_set}
use Rattle.books.specs.declared.row.Row.{Row}
use Rattle.books.specs.Slots.{each_from, lowest_from}

pub length_each : {X : Type 0} (f : ℕ → X → X) (k : ℕ) (xs : List X) → length (each_from f k xs) ≡ length xs
length_each f k [] = refl
length_each f k (x ∷ xs) = ap suc (length_each f (k + 1) xs)

each_at : {X : Type 0} (f : ℕ → X → X) (k : ℕ) (xs : List X) (j : ℕ) (d : X) → j < length xs → get_or (each_from f k xs) j d ≡ f (k + j) (get_or xs j d)
each_at f k [] j d h = absurd (omega arith)
each_at f k (x ∷ xs) zero d h = ap (λ (n : ℕ). f n x) (omega arith)
each_at f k (x ∷ xs) (suc j) d h =
    each_at f (k + 1) xs j d (omega arith) ∙ ap (λ (n : ℕ). f n (get_or xs j d)) (omega arith)

-- what stands at a place after each row was taken by its place
pub get_or_each : {X : Type 0} (f : ℕ → X → X) (xs : List X) (j : ℕ) (d : X) → j < length xs → get_or (each_from f 0 xs) j d ≡ f j (get_or xs j d)
get_or_each f xs j d h = each_at f 0 xs j d h ∙ ap (λ (n : ℕ). f n (get_or xs j d)) (omega arith)

-- each row taken twice
pub each_twice : {X : Type 0} (f g : ℕ → X → X) (k : ℕ) (xs : List X) → each_from f k (each_from g k xs) ≡ each_from (λ j x. f j (g j x)) k xs
each_twice f g k [] = refl
each_twice f g k (x ∷ xs) = ap (λ (ys : List _). f k (g k x) ∷ ys) (each_twice f g (k + 1) xs)

-- rows that stay as they are
pub each_same : {X : Type 0} (f : ℕ → X → X) (k : ℕ) (xs : List X) → ((j : ℕ) (x : X) → f j x ≡ x) → each_from f k xs ≡ xs
each_same f k [] same = refl
each_same f k (x ∷ xs) same = let a = same k x in let b = each_same f (k + 1) xs same in cc

-- the lowest that passes a test, among rows that were taken by their places
pub lowest_each : (p : ℕ → Row → Bool) (f : ℕ → Row → Row) (k : ℕ) (rs : List Row) → lowest_from p k (each_from f k rs) ≡ lowest_from (λ j r. p j (f j r)) k rs
lowest_each p f k [] = refl
lowest_each p f k (r ∷ rs) = ap (λ (n : Option ℕ). cond (p k (f k r)) (Some (k + 1)) n) (lowest_each p f (k + 1) rs)

-- the rows below the k-th are taken, and the others are still to be
abbrev pub TakenBelow : {X : Type 0} → (ℕ → X → X) → ℕ → List X → List X → Type 0
TakenBelow f k old rows = take k rows ++ each_from f k (drop k rows) ≡ each_from f 0 old

pub taken_more : {X : Type 0} (f : ℕ → X → X) (k : ℕ) (old rows : List X) (d y : X) → k < length rows → TakenBelow f k old rows → y ≡ f k (get_or rows k d)
    → TakenBelow f (k + 1) old (set rows k y)
taken_more f k old rows d y h t e =
    let a = take_more_set rows k y h in
    let b = drop-set-lt (k + 1) rows k y (omega arith) in
    let g : each_from f k (drop k rows) ≡ f k (get_or rows k d) ∷ each_from f (k + 1) (drop (k + 1) rows) = at_drop_more (each_from f k) rows k d h in
    let i = append_assoc (take k rows) (y ∷ []) (each_from f (k + 1) (drop (k + 1) rows)) in
    cc
