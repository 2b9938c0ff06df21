-- Slots that are counted off over several blocks.
use Rattle.std.proofs.Common.{◌≡◌, ℕ, ◌+◌, ◌-◌, ◌*◌, ◌≤◌, ◌<◌, All, Bool, true, false, ◌&&◌, List, [], ◌++◌, length, get_or, take, drop, append_assoc, refl, sym, ap, ◌∙◌, arith}
use Rattle.std.specs.List.{list_all}
use Rattle.std.proofs.lemmas.List.{append-nil, at_drop_all, at_drop_more, length-take, take_all}
use Rattle.std.proofs.lemmas.List.Folds.{list_all-append}
use Rattle.showfile.specs.Told.{block_slots, slot_bytes}
use Rattle.showfile.proofs.Blocks.{IsWhole}
use Rattle.showfile.proofs.Next.{next_length}
use Rattle.showfile.proofs.Parts.{take_over}
use Rattle.showfile.proofs.Pieces.{length_joined}

-- as many bytes for slots as blocks of 512 bytes have
pub slot_bytes_length : (bs : List (List ℕ)) → All IsWhole bs → length (slot_bytes bs) ≡ 504 * length bs
slot_bytes_length bs whole =
    length_joined block_slots 504 bs (λ k d h. next_length 4 504 (get_or bs k d) (omega (arith, whole k d h)))

-- the bytes for slots from the i-th block on
abbrev pub slots_from : (bs : List (List ℕ)) → (i : ℕ) → List ℕ
slots_from bs i = slot_bytes (drop i bs)

-- a way to cut lists that goes over from one to the next, as `take` and `drop` do
abbrev IsCut : (ℕ → List ℕ → List ℕ) → Type 0
IsCut cut = (n : ℕ) (xs ys : List ℕ) → cut n (xs ++ ys) ≡ cut n xs ++ cut (n - length (take n xs)) ys

module _ (cut : ℕ → List ℕ → List ℕ) (over : IsCut cut) (bs : List (List ℕ)) (i left : ℕ) (here : i < length bs) where
  -- the slots of the i-th block, how many are then left, and the slots of the blocks behind it
  abbrev slots_here : List ℕ
  slots_here = block_slots (get_or bs i [])

  abbrev left_then : ℕ
  left_then = left - length (take left slots_here)

  abbrev behind : List ℕ
  behind = slots_from bs (i + 1)

  -- these are cut in this order
  cut_on : cut left (slots_from bs i) ≡ cut left slots_here ++ cut left_then behind
  cut_on = ap (cut left) (at_drop_more slot_bytes bs i [] here) ∙ over left slots_here behind

  module _ (p : ℕ → Bool) where
    -- all pass a test where these do and those
    all_pass : list_all p (cut left (slots_from bs i)) ≡ (list_all p (cut left slots_here) && list_all p (cut left_then behind))
    all_pass = ap (list_all p) cut_on ∙ list_all-append p (cut left slots_here) (cut left_then behind)

    -- none do where these do not
    pub one_fails : list_all p (cut left slots_here) ≡ false → false ≡ list_all p (cut left (slots_from bs i))
    one_fails e = sym (all_pass ∙ rw e refl)

    -- and where these do, those decide
    pub goes_on : (used : List ℕ) → used ≡ take left slots_here → list_all p (cut left slots_here) ≡ true
        → list_all p (cut (left - length used) behind) ≡ list_all p (cut left (slots_from bs i))
    goes_on used u e = sym (all_pass ∙ rw (e, u) refl)

-- past all blocks nothing is cut, and all of it passes a test
pub ends : (cut : ℕ → List ℕ → List ℕ) (p : ℕ → Bool) (bs : List (List ℕ)) (i left : ℕ) → cut left [] ≡ [] → length bs ≤ i
    → true ≡ list_all p (cut left (slots_from bs i))
ends cut p bs i left none past =
    let nothing = ap (cut left) (at_drop_all slot_bytes bs i past) ∙ none in
    sym (ap (list_all p) nothing)

-- where the slots of all blocks from the i-th on are to stand behind a front, its own stand there first
pub filled_on : (bs : List (List ℕ)) (i n filled : ℕ) (front slots : List ℕ) → i < length bs
    → slots ≡ take (n - filled) (block_slots (get_or bs i []))
    → front ++ take (n - filled) (slots_from bs i) ≡ take n (slot_bytes bs)
    → (front ++ slots) ++ take (n - (filled + length slots)) (slots_from bs (i + 1)) ≡ take n (slot_bytes bs)
filled_on bs i n filled front slots here e so_far =
    let rest = slots_from bs (i + 1) in
    let left : n - (filled + length slots) ≡ n - filled - length slots = omega arith in
    let on : slots ++ take (n - filled - length slots) rest ≡ take (n - filled) (slots_from bs i) =
    rw e (sym (cut_on take take_over bs i (n - filled) here)) in
    rw (left, append_assoc front slots (take (n - filled - length slots) rest)) (ap (λ (xs : List ℕ). front ++ xs) on ∙ so_far)

-- past all blocks a memory is full, which has no more room than they have slots
pub filled_up : (bs : List (List ℕ)) (i filled : ℕ) (memory : List ℕ)
    → length bs ≤ i → length memory ≤ length (slot_bytes bs) → filled ≤ length memory
    → take filled memory ++ take (length memory - filled) (slots_from bs i) ≡ take (length memory) (slot_bytes bs)
    → memory ≡ take (length memory) (slot_bytes bs)
filled_up bs i filled memory past room within so_far =
    let n = length memory in
    let left = n - filled in
    let front = take filled memory in
    let none = at_drop_all (λ (bs : List (List ℕ)). take left (slot_bytes bs)) bs i past ∙ take_all left [] (omega arith) in
    let whole = sym (append-nil front) ∙ ap (λ (xs : List ℕ). front ++ xs) (sym none) ∙ so_far in
    let all : n ≤ filled = omega (arith, ap length whole, length-take filled memory, length-take n (slot_bytes bs)) in
    sym (take_all filled memory all) ∙ whole
