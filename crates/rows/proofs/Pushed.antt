-- Rows that are pushed one by one, each made of the thing in its place.
use Rattle.std.proofs.Common.{◌≡◌, ℕ, ◌+◌, ◌<◌, ◌≤◌, List, [], ◌∷◌, ◌++◌, map, length, get_or, take, sym, ap, ◌∙◌, arith}
use Rattle.std.proofs.lemmas.List.{length-map, length-take-le, length_push, map_more, take_all}

-- one row more is made, of what stands at k
pub push_map : {X T : Type 0} (f : X → T) (given : List X) (d : X) (k : ℕ) (rows new : List T) → length given ≤ 16 → k < length given
    → rows ≡ map f (take k given) → new ≡ take 16 (rows ++ f (get_or given k d) ∷ []) → new ≡ map f (take (k + 1) given)
push_map f given d k rows new few h e pushed =
    let n = length-take-le k given (omega arith) in
    let m = length-map (take k given) f in
    let l = length_push (map f (take k given)) (f (get_or given k d)) in
    pushed ∙ ap (λ (ys : List _). take 16 (ys ++ f (get_or given k d) ∷ [])) e
    ∙ take_all 16 (map f (take k given) ++ f (get_or given k d) ∷ []) (omega arith) ∙ sym (map_more f given k d h)
