-- The last row that slots name.
use Rattle.std.proofs.Common.{◌≡◌, ℕ, ◌&&◌, true, List, [], ◌∷◌, sym, ap, ◌∙◌, arith}
use Rattle.std.specs.List.{fold, list_all}
use Rattle.std.specs.Prelude.{max, nat_le}
use Rattle.std.proofs.Math.Bool.{and-true, and_assoc}

-- the greater of two is at most n where both are
greater_fits : (a b n : ℕ) → nat_le (max a b) n ≡ (nat_le a n && nat_le b n)
greater_fits a b n = grind arith

-- the greatest is at most n where each is
fit_from : (xs : List ℕ) (a n : ℕ) → nat_le (fold max a xs) n ≡ (nat_le a n && list_all (λ x. nat_le x n) xs)
fit_from [] a n = sym (and-true (nat_le a n))
fit_from (x ∷ xs) a n =
    fit_from xs (max a x) n ∙ ap (λ b. b && list_all (λ y. nat_le y n) xs) (greater_fits a x n)
    ∙ and_assoc (nat_le a n) (nat_le x n) (list_all (λ y. nat_le y n) xs)

-- 0 is no more than any number
none_fits : (n : ℕ) → nat_le 0 n ≡ true
none_fits n = grind arith

-- slots name none but the first n rows if the last that they name is one of those
pub last_fits : (xs : List ℕ) (n : ℕ) → nat_le (fold max 0 xs) n ≡ list_all (λ x. nat_le x n) xs
last_fits xs n = fit_from xs 0 n ∙ ap (λ b. b && list_all (λ x. nat_le x n) xs) (none_fits n)
