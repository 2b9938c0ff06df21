-- A strip that is played in a loop is played on.
use Rattle.std.proofs.Common.{◌≡◌, ℕ, ◌+◌, ◌-◌, ◌%◌, ◌<◌, ◌≤◌, ltb, ap, sym, ◌∙◌, inl, inr, mod-eq_of_lt, arith}
use Rattle.std.proofs.lemmas.Bool.{cases_lt, cond-false, cond-true, le-ltb, lt-ltb}
use native.Mathlib.Nat.{add-mod_right}
use Rattle.deferral.specs.Free.{Play}
use Rattle.strip.proofs.RowGoesOn.{PlayedOn}
use Rattle.walk.specs.Loops.{in_loop}

-- a slot past the mark is played as one of the loop
pub past_mark : (mark length n : ℕ) → mark ≤ n → in_loop mark length n ≡ mark + (n - mark) % length
past_mark mark length n h = cond-false (ltb n mark) n (mark + (n - mark) % length) (le-ltb n mark h)

-- slots before the loop's end are played as themselves
pub plays_itself : (mark length n : ℕ) → n < mark + length → in_loop mark length n ≡ n
plays_itself mark length n h =
    elim (cases_lt n mark) [
      | inl before ↦ cond-true (ltb n mark) n (mark + (n - mark) % length) (lt-ltb n mark before)
      | inr past ↦
          let less : n - mark < length = omega arith in
          past_mark mark length n past ∙ ap (λ (x : ℕ). mark + x) (mod-eq_of_lt less) ∙ omega arith
    ]

-- and each slot from the mark on as it is a turn later
pub plays_again : (mark length n : ℕ) → mark ≤ n → in_loop mark length (n + length) ≡ in_loop mark length n
plays_again mark length n h =
    let e : (n + length) - mark ≡ (n - mark) + length = omega arith in
    past_mark mark length (n + length) (omega arith) ∙ ap (λ (x : ℕ). mark + x) (ap (λ (x : ℕ). x % length) e ∙ add-mod_right (n - mark) length) ∙ sym (past_mark mark length n h)

-- a loop of the slots from m on and before t
pub looped : (s play : Play) (m t : ℕ) → m < t → ((n : ℕ) → play n ≡ s (in_loop m (t - m) n)) → PlayedOn s play m t
looped s play m t some plays =
    record {
      some = some;
      before = λ n h. plays n ∙ ap s (plays_itself m (t - m) n (omega arith));
      again = λ n h. plays (n + (t - m)) ∙ ap s (plays_again m (t - m) n h) ∙ sym (plays n);
    }
