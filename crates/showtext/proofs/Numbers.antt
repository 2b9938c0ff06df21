-- A number as it is written is read as that number.
use Rattle.std.proofs.Common.{◌≡◌, ℕ, ◌+◌, ◌-◌, ◌*◌, ◌/◌, ◌%◌, ◌<◌, ◌≤◌, ◌^◌, true, false, List, [], ◌∷◌, ◌++◌, All, Some, inl, inr, refl, ap, ◌∙◌, arith, decimal, ◌==◌}
use Rattle.std.specs.Char.{is_ascii_digit}
use Rattle.std.proofs.lemmas.Bool.{cases_Bool}
use Rattle.std.proofs.lemmas.Bool.Decides.{nat_tests}
use Rattle.std.proofs.lemmas.Fmt.{decimal_by_steps, decimal_nonempty, length-decimal-le}
use Rattle.std.proofs.lemmas.List.Elements.{All-cons, All-nil, All-push}
use Rattle.lines.specs.Numeral.{decimal as value_from, numeral}

-- a digit
abbrev pub IsDigit : ℕ → Type 0
IsDigit b = (48 ≤ b) × (b ≤ 57)

-- a digit passes the test
is_digit : (b : ℕ) → IsDigit b → is_ascii_digit b ≡ true
is_digit b h = grind (arith, nat_tests)

-- a number is written in digits
pub digits_alone : (n : ℕ) → n < 2 ^ 64 → All IsDigit (decimal n)
digits_alone =
    decimal_by_steps (λ n ds. All IsDigit ds)
    (λ n one. All-cons IsDigit (48 + n) [] (omega arith, omega arith) (All-nil IsDigit))
    (λ n ds more front. All-push IsDigit ds (48 + n % 10) front (omega arith, omega arith))

-- one digit more
value_push : (m : ℕ) (ds : List ℕ) (k d : ℕ) → d < 10 → value_from m ds ≡ Some k
    → value_from m (ds ++ (48 + d) ∷ []) ≡ Some (k * 10 + d)
value_push m [] k d small e =
    let same : m ≡ k = cc in
    rw (is_digit (48 + d) (omega arith, omega arith)) (ap Some (omega arith))
value_push m (b ∷ ds) k d small e = elim (cases_Bool (is_ascii_digit b)) [
  | inl digit ↦ rw digit (value_push (m * 10 + (b - 48)) ds k d small (rw digit at e))
  | inr other ↦ absurd (let never = rw other at e in cc)
]

-- the digits of a number have its value
value_of_digits : (n : ℕ) → n < 2 ^ 64 → value_from 0 (decimal n) ≡ Some n
value_of_digits =
    decimal_by_steps (λ n ds. value_from 0 ds ≡ Some n)
    (λ n one. value_push 0 [] 0 n one refl ∙ ap Some (omega arith))
    (λ n ds more front. value_push 0 ds (n / 10) (n % 10) (omega arith) front ∙ ap Some (omega arith))

-- one of at most 65,535 is read
pub numeral_decimal : (n : ℕ) → n ≤ 65535 → numeral (decimal n) ≡ Some n
numeral_decimal n small =
    let some = decimal_nonempty n (omega arith) in
    let few = length-decimal-le 5 n (omega arith) (omega arith) (omega arith) in
    let value = value_of_digits n (omega arith) in
    grind (arith, nat_tests)

-- a byte that is no digit does not stand in it
pub none_in_decimal : (c n : ℕ) → c < 48 → n < 2 ^ 64 → All (λ b. (b == c) ≡ false) (decimal n)
none_in_decimal c n low fits k d within =
    let digit = digits_alone n fits k d within in
    grind (arith, nat_tests)
