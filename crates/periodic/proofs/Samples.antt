-- The samples of a slot, taken from the first row to the last.
use Rattle.std.proofs.Common.{◌≡◌, ℕ, ◌+◌, ◌*◌, ◌^◌, ◌<◌, ◌≤◌, Bool, true, false, cond, List, ◌++◌, map, length, get_or, take, drop, set, sym, ap, ◌∙◌, add-one, mul-add, mul_assoc, mul-one, pow-suc, arith}
use Rattle.std.proofs.lemmas.List.{at_drop_more, drop_more, get_or_at, get_or_default, length-map, length-take-le}
use Rattle.std.proofs.lemmas.List.Edits.{map_over_more}
use Rattle.periodic.specs.declared.phase.Phase.{Phase}
use Rattle.periodic.specs.Phases.{blank_phase, due, mask, sampled}

-- the rows below the k-th are sampled, and m has them
pub record SampledBelow (k : ℕ) (old : List Phase) (m : ℕ) (rows : List Phase) : Type 0 where
  pub answer : m + 2 ^ k * mask (drop k old) ≡ mask old
  pub taken : rows ≡ map sampled (take k old) ++ drop k old

-- a bit and the bits above it, moved k places up
moved : (k b n : ℕ) → 2 ^ k * (b + 2 * n) ≡ 2 ^ k * b + 2 ^ (k + 1) * n
moved k b n = mul-add (2 ^ k) b (2 * n) ∙ ap (λ (x : ℕ). 2 ^ k * b + x) (sym (mul_assoc (2 ^ k) 2 n) ∙ ap (λ (x : ℕ). x * n) (sym (pow-suc 2 k) ∙ ap (λ (x : ℕ). 2 ^ x) (sym (add-one k))))

-- the row at k
module _ (k : ℕ) (old : List Phase) (m : ℕ) (rows : List Phase) (h : k < length old) (s : SampledBelow k old m rows) where
  was : get_or rows k blank_phase ≡ get_or old k blank_phase
  was =
      let n : length (map sampled (take k old)) ≡ k = length-map (take k old) sampled ∙ length-take-le k old (omega arith) in
      ap (λ (rs : List Phase). get_or rs k blank_phase) (s.taken ∙ ap (λ (rs : List Phase). map sampled (take k old) ++ rs) (drop_more old k blank_phase h))
      ∙ get_or_at (map sampled (take k old)) (get_or old k blank_phase) (drop (k + 1) old) blank_phase k n

  -- what its bit adds
  bit : (b : Bool) → b ≡ due (get_or rows k blank_phase) → m + 2 ^ k * cond b 1 0 + 2 ^ (k + 1) * mask (drop (k + 1) old) ≡ mask old
  bit b d =
      let one : ℕ = cond b 1 0 in
      let rest : ℕ = mask (drop (k + 1) old) in
      let here : mask (drop k old) ≡ cond (due (get_or old k blank_phase)) 1 0 + 2 * rest = at_drop_more mask old k blank_phase h in
      let is : cond (due (get_or old k blank_phase)) 1 0 ≡ one = ap (λ (r : Phase). cond {A = ℕ} (due r) 1 0) (sym was) ∙ ap (λ (x : Bool). cond {A = ℕ} x 1 0) (sym d) in
      let e : 2 ^ k * mask (drop k old) ≡ 2 ^ k * (one + 2 * rest) = ap (λ (n : ℕ). 2 ^ k * n) (here ∙ ap (λ (n : ℕ). n + 2 * rest) is) in
      let split : 2 ^ k * (one + 2 * rest) ≡ 2 ^ k * one + 2 ^ (k + 1) * rest = moved k one rest in
      let t : m + 2 ^ k * mask (drop k old) ≡ mask old = s.answer in
      omega arith

  taken_more : (r : Phase) → k < length rows → r ≡ sampled (get_or rows k blank_phase) → set rows k r ≡ map sampled (take (k + 1) old) ++ drop (k + 1) old
  taken_more r l e = rw e (map_over_more sampled old rows k (get_or rows k blank_phase) h s.taken (get_or_default rows k blank_phase (get_or rows k blank_phase) l))

  pub sampled_due : (r : Phase) → k < length rows → true ≡ due (get_or rows k blank_phase) → r ≡ sampled (get_or rows k blank_phase) → SampledBelow (k + 1) old (m + 2 ^ k) (set rows k r)
  sampled_due r l d e = let b = bit true d in record { answer = rw mul-one at b; taken = taken_more r l e }

  pub sampled_not : (r : Phase) → k < length rows → false ≡ due (get_or rows k blank_phase) → r ≡ sampled (get_or rows k blank_phase) → SampledBelow (k + 1) old m (set rows k r)
  sampled_not r l d e = let b = bit false d in record { answer = omega arith; taken = taken_more r l e }

  -- there is room for the bit of a row that is due
  pub room : true ≡ due (get_or rows k blank_phase) → m + 2 ^ k ≤ mask old
  room d = let b = rw mul-one at (bit true d) in omega arith
