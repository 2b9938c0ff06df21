-- Counting free slots.
use Rattle.std.proofs.Common.{◌≡◌, ℕ, zero, suc, ◌+◌, ◌-◌, ◌<◌, ◌≤◌, Bool, true, false, cond, refl, ap, sym, ◌∙◌, subst, inl, inr, add-zero, add-suc, arith}
use Rattle.std.proofs.lemmas.Bool.{cases_Bool, cases_lt, cases_order, cond-true, cond-false}
use Rattle.deferral.specs.Free.{Free, free_between, free_from, last_free}

-- 1 for a free slot, 0 for another
abbrev pub one_if : Bool → ℕ
one_if b = cond b 1 0

pub one_if_free : (b : Bool) → b ≡ true → one_if b ≡ 1
one_if_free b e = rw e

pub one_if_taken : (b : Bool) → b ≡ false → one_if b ≡ 0
one_if_taken b e = rw e

pub one_if_small : (b : Bool) → one_if b ≤ 1
one_if_small true = omega arith
one_if_small false = omega arith

-- of m + n slots, the first m and the n after them
pub from_split : (f : Free) (a m n : ℕ) → free_from f a (m + n) ≡ free_from f a m + free_from f (a + m) n
from_split f a m zero = rw (add-zero, add-zero)
from_split f a m (suc n) =
    let e = from_split f a m n in
    let s : (a + m) + n ≡ a + (m + n) = omega arith in
    rw (add-suc, s) (omega (arith, e))

-- the first of n + 1 slots and the n after it
pub from_first : (f : Free) (a n : ℕ) → free_from f a (suc n) ≡ one_if (f a) + free_from f (a + 1) n
from_first f a n =
    let split = from_split f a 1 n in
    let one : free_from f a 1 ≡ one_if (f a) = let z : a + 0 ≡ a = omega arith in rw z (omega arith) in
    let k : suc n ≡ 1 + n = omega arith in
    subst (λ (x : ℕ). free_from f a x ≡ one_if (f a) + free_from f (a + 1) n) (sym k) (split ∙ ap (λ (x : ℕ). x + free_from f (a + 1) n) one)

-- equal where the slots are
pub from_agree : (f g : Free) (a b n : ℕ) → ((k : ℕ) → k < n → f (a + k) ≡ g (b + k)) → free_from f a n ≡ free_from g b n
from_agree f g a b zero h = refl
from_agree f g a b (suc n) h =
    let e = from_agree f g a b n (λ k l. h k (omega arith)) in
    let here = h n (omega arith) in
    cc

-- none where b is not past a
pub between_none : (f : Free) (a b : ℕ) → b ≤ a → free_between f a b ≡ 0
between_none f a b h = let z : b - a ≡ 0 = omega arith in rw z refl

pub between_split : (f : Free) (a b c : ℕ) → a ≤ b → b ≤ c → free_between f a c ≡ free_between f a b + free_between f b c
between_split f a b c h k =
    let whole : c - a ≡ (b - a) + (c - b) = omega arith in
    let there : a + (b - a) ≡ b = omega arith in
    rw whole (from_split f a (b - a) (c - b) ∙ ap (λ (x : ℕ). free_from f a (b - a) + free_from f x (c - b)) there)

-- the first slot and the others
pub between_first : (f : Free) (a b : ℕ) → a < b → free_between f a b ≡ one_if (f a) + free_between f (a + 1) b
between_first f a b h =
    let k : b - a ≡ suc (b - (a + 1)) = omega arith in
    rw k (from_first f a (b - (a + 1)))

-- the last slot and the others
pub between_last : (f : Free) (a b : ℕ) → a ≤ b → free_between f a (b + 1) ≡ free_between f a b + one_if (f b)
between_last f a b h =
    let k : (b + 1) - a ≡ suc (b - a) = omega arith in
    let there : a + (b - a) ≡ b = omega arith in
    rw k (ap (λ (x : ℕ). free_from f a (b - a) + one_if (f x)) there)

-- equal where the slots are
pub between_agree : (f g : Free) (a b : ℕ) → ((n : ℕ) → a ≤ n → n < b → f n ≡ g n) → free_between f a b ≡ free_between g a b
between_agree f g a b h = from_agree f g a a (b - a) (λ k l. h (a + k) (omega arith) (omega arith))

-- a shift of all slots counts the same
pub between_shift : (f g : Free) (a b t : ℕ) → ((n : ℕ) → a ≤ n → n < b → f (n + t) ≡ g n) → free_between f (a + t) (b + t) ≡ free_between g a b
between_shift f g a b t h =
    let k : (b + t) - (a + t) ≡ b - a = omega arith in
    rw k (from_agree f g (a + t) a (b - a) (λ k l.
    let s : (a + t) + k ≡ (a + k) + t = omega arith in rw s (h (a + k) (omega arith) (omega arith))))

-- a part counts no more than the whole
pub between_part : (f : Free) (a b c d : ℕ) → a ≤ b → c ≤ d → free_between f b c ≤ free_between f a d
between_part f a b c d h k =
    elim (cases_lt b c) [
      | inl less ↦
          let s = between_split f a b d h (omega arith) in
          let t = between_split f b c d (omega arith) k in
          omega arith
      | inr more ↦ let z = between_none f b c more in omega arith
    ]

-- a free slot counts
pub between_some : (f : Free) (a b n : ℕ) → a ≤ n → n < b → f n ≡ true → 1 ≤ free_between f a b
between_some f a b n h k e =
    let s = between_split f a n b h (omega arith) in
    let t = between_first f n b k in
    let one = one_if_free (f n) e in
    omega arith

-- where none counts, none is free
pub none_free : (f : Free) (a b n : ℕ) → free_between f a b ≡ 0 → a ≤ n → n < b → f n ≡ false
none_free f a b n z h k =
    elim (cases_Bool (f n)) [
      | inl free ↦ let some = between_some f a b n h k free in absurd (omega arith)
      | inr taken ↦ taken
    ]

-- and where none is free, none counts
from_none : (f : Free) (a n : ℕ) → ((k : ℕ) → k < n → f (a + k) ≡ false) → free_from f a n ≡ 0
from_none f a zero h = refl
from_none f a (suc n) h =
    let e = from_none f a n (λ k l. h k (omega arith)) in
    let here = one_if_taken (f (a + n)) (h n (omega arith)) in
    omega arith

pub none_between : (f : Free) (a b : ℕ) → ((n : ℕ) → a ≤ n → n < b → f n ≡ false) → free_between f a b ≡ 0
none_between f a b h = from_none f a (b - a) (λ k l. h (a + k) (omega arith) (omega arith))

-- no more are free than there are slots
from_bound : (f : Free) (a n : ℕ) → free_from f a n ≤ n
from_bound f a zero = omega arith
from_bound f a (suc n) = let e = from_bound f a n in let s = one_if_small (f (a + n)) in omega arith

pub between_bound : (f : Free) (a b : ℕ) → free_between f a b ≤ b - a
between_bound f a b = from_bound f a (b - a)

-- two free slots with as many free slots from them on are one
pub same_start : (f : Free) (r s d : ℕ) → r < d → s < d → f r ≡ true → f s ≡ true → free_between f r d ≡ free_between f s d → r ≡ s
same_start f r s d h k e g same =
    elim (cases_order r s) [
      | inl here ↦ here
      | inr (inl less) ↦
          let split = between_split f r s d (omega arith) (omega arith) in
          let some = between_some f r s r (omega arith) less e in
          absurd (omega arith)
      | inr (inr more) ↦
          let split = between_split f s r d (omega arith) (omega arith) in
          let some = between_some f s r s (omega arith) more g in
          absurd (omega arith)
    ]

-- and so are two free slots with as many free slots up to them
pub same_end : (f : Free) (r s : ℕ) → f r ≡ true → f s ≡ true → free_between f 0 (r + 1) ≡ free_between f 0 (s + 1) → r ≡ s
same_end f r s e g same =
    elim (cases_order r s) [
      | inl here ↦ here
      | inr (inl less) ↦
          let split = between_split f 0 (r + 1) (s + 1) (omega arith) (omega arith) in
          let some = between_some f (r + 1) (s + 1) s (omega arith) (omega arith) g in
          absurd (omega arith)
      | inr (inr more) ↦
          let split = between_split f 0 (s + 1) (r + 1) (omega arith) (omega arith) in
          let some = between_some f (s + 1) (r + 1) r (omega arith) (omega arith) e in
          absurd (omega arith)
    ]

-- the earliest of the last c free slots before d, where there are so many
pub record Earliest (f : Free) (c d r : ℕ) : Type 0 where
  pub before : r < d
  pub free : f r ≡ true
  pub count : free_between f r d ≡ c

-- one slot more before d
earliest_free : (f : Free) (c d r : ℕ) → f d ≡ true → Earliest f c d r → Earliest f (suc c) (suc d) r
earliest_free f c d r e l =
    let last = between_last f r d (omega (arith, l.before)) in
    let one = one_if_free (f d) e in
    let k : suc d ≡ d + 1 = omega arith in
    let lower = l.before in
    let some = l.count in
    record { before = omega arith; free = l.free; count = rw k (omega arith) }

earliest_taken : (f : Free) (c d r : ℕ) → f d ≡ false → Earliest f c d r → Earliest f c (suc d) r
earliest_taken f c d r e l =
    let last = between_last f r d (omega (arith, l.before)) in
    let none = one_if_taken (f d) e in
    let k : suc d ≡ d + 1 = omega arith in
    let lower = l.before in
    let some = l.count in
    record { before = omega arith; free = l.free; count = rw k (omega arith) }

earliest_here : (f : Free) (d : ℕ) → f d ≡ true → Earliest f 1 (suc d) d
earliest_here f d e =
    let last = between_last f d d (omega arith) in
    let one = one_if_free (f d) e in
    let none = between_none f d d (omega arith) in
    let k : suc d ≡ d + 1 = omega arith in
    record { before = omega arith; free = e; count = rw k (omega arith) }

pub last_free_none : (f : Free) (d : ℕ) → last_free f d 0 ≡ d
last_free_none f zero = refl
last_free_none f (suc d) = refl

pub last_free_is : (f : Free) (d c : ℕ) → 0 < c → c ≤ free_between f 0 d → Earliest f c d (last_free f d c)
last_free_is f zero c h k = let z = between_none f 0 0 (omega arith) in absurd (omega arith)
last_free_is f (suc d) zero h k = absurd (omega arith)
last_free_is f (suc d) (suc c) h k =
    let last = between_last f 0 d (omega arith) in
    let next : suc d ≡ d + 1 = omega arith in
    let k' : suc c ≤ free_between f 0 (d + 1) = subst (λ (x : ℕ). suc c ≤ free_between f 0 x) next k in
    elim (cases_Bool (f d)) [
      | inl free ↦
          let one = one_if_free (f d) free in
          rw (cond-true (f d) (last_free f d c) (last_free f d (suc c)) free)
          (elim (cases_lt 0 c) [
            | inl some ↦ earliest_free f c d (last_free f d c) free (last_free_is f d c some (omega arith))
            | inr none ↦ let z : c ≡ 0 = omega arith in rw (z, last_free_none f d) (earliest_here f d free)
          ])
      | inr taken ↦
          let none = one_if_taken (f d) taken in
          rw (cond-false (f d) (last_free f d c) (last_free f d (suc c)) taken) (earliest_taken f (suc c) d (last_free f d (suc c)) taken (last_free_is f d (suc c) h (omega arith)))
    ]

-- there is one such slot only
pub earliest_one : (f : Free) (c d r s : ℕ) → Earliest f c d r → Earliest f c d s → r ≡ s
earliest_one f c d r s x y = same_start f r s d x.before y.before x.free y.free (x.count ∙ sym y.count)

-- with so many free slots from slot e on, it is not before e
pub earliest_from : (f : Free) (c d r e : ℕ) → Earliest f c d r → c ≤ free_between f e d → e ≤ r
earliest_from f c d r e x h =
    elim (cases_lt r e) [
      | inr there ↦ there
      | inl less ↦
          let lower = x.before in
          elim (cases_lt e d) [
            | inl inside ↦
                let split = between_split f r e d (omega arith) (omega arith) in
                let some = between_some f r e r (omega arith) less x.free in
                let count = x.count in
                absurd (omega arith)
            | inr past ↦
                let none = between_none f e d past in
                let first = between_some f r d r (omega arith) lower x.free in
                let count = x.count in
                absurd (omega arith)
          ]
    ]
