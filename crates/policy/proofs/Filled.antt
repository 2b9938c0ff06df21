-- An array that is filled from its start, row by row.
use Rattle.std.proofs.Common.{◌≡◌, ℕ, ◌+◌, ◌<◌, ◌≤◌, List, [], ◌∷◌, ◌++◌, map, length, get_or, take, set, sym, ap, ◌∙◌, arith}
use Rattle.std.proofs.lemmas.List.{take_more_set, map_more, take_all}

-- one row more is filled
pub filled_more : {X Y : Type 0} (f : X → Y) (rows : List Y) (given : List X) (k : ℕ) (d : X) (y : Y) → k < length given → k < length rows → take k rows ≡ map f (take k given) → y ≡ f (get_or given k d)
    → take (k + 1) (set rows k y) ≡ map f (take (k + 1) given)
filled_more f rows given k d y h l e is =
    take_more_set rows k y l ∙ ap (λ (xs : List _). xs ++ y ∷ []) e ∙ ap (λ (z : _). map f (take k given) ++ z ∷ []) is ∙ sym (map_more f given k d h)

-- at the end all is filled
pub filled_all : {X Y : Type 0} (f : X → Y) (rows : List Y) (given : List X) (k : ℕ) → length given ≤ k → k ≤ length given → take k rows ≡ map f (take k given) → take (length given) rows ≡ map f given
filled_all f rows given k h l e =
    let same : k ≡ length given = omega arith in
    ap (λ (n : ℕ). take n rows) (sym same) ∙ e ∙ ap (map f) (take_all k given h)
