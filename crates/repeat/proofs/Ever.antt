-- After a repeat, what held up to it holds ever after.
use Rattle.std.proofs.Common.{◌≡◌, ℕ, zero, suc, ◌+◌, ◌-◌, ◌<◌, None, sym, ap, ◌∙◌, subst, inl, inr, add-zero, add-suc, arith}
use Rattle.std.proofs.lemmas.Bool.{cases_lt}
use Rattle.repeat.specs.Marks.{after, mark_of}
use Rattle.repeat.specs.Finds.{AlikeLasts, RepeatFound, Stepping}

-- n steps on from where a steps lead
pub after_plus : {S : Type 0} (next : S → S) (a n : ℕ) (s : S) → after next (a + n) s ≡ after next n (after next a s)
after_plus next a zero s = rw add-zero
after_plus next a (suc n) s = rw add-suc (ap next (after_plus next a n s))

module _ (P : ℕ → Type 0) (m t : ℕ) (below : m < t) (over : (k : ℕ) → P (m + k) → P (t + k)) (held : (n : ℕ) → n < t → P n) where
  -- P holds of every number below b
  under : (b n : ℕ) → n < b → P n
  under zero n h = absurd (omega arith)
  under (suc b) n h =
      elim (cases_lt n t) [
        | inl less ↦ held n less
        | inr more ↦
            let same : t + (n - t) ≡ n = omega arith in
            subst P same (over (n - t) (under b (m + (n - t)) (omega arith)))
      ]

  -- what holds of each number below t, and of t + k where it holds of m + k, holds of every number
  pub ever : (n : ℕ) → P n
  ever n = under (suc n) n (omega arith)

module _ {S A : Type 0} (shows : S → A) (next : S → S) (s : S) (m t : ℕ) (again : (k : ℕ) → shows (after next k (after next t s)) ≡ shows (after next k (after next m s))) where
  -- what is shown from instant t on is what was shown from instant m on
  pub shown_again : (k : ℕ) → shows (after next (t + k) s) ≡ shows (after next (m + k) s)
  shown_again k = ap shows (after_plus next t k s) ∙ again k ∙ ap shows (sym (after_plus next m k s))

  -- so what held of all that was shown before t holds of all that is ever shown
  pub ever_shown : m < t → (P : A → Type 0) → ((n : ℕ) → n < t → P (shows (after next n s))) → (n : ℕ) → P (shows (after next n s))
  ever_shown below P held = ever (λ n. P (shows (after next n s))) m t below (λ k. subst P (sym (shown_again k))) held

module _ {S F : Type 0} (steps : Stepping S F) (s : S) (limit : ℕ) where
  -- where a yes lasts, no step after a repeat, however far ahead, meets a fault
  pub ever_faultless : AlikeLasts steps → (mark instant : ℕ) → RepeatFound steps s limit mark instant → (n : ℕ) → steps.fault (after steps.next n s) ≡ None
  ever_faultless lasts mark instant f =
      let below : mark_of instant < instant = omega arith in
      ever_shown steps.fault steps.next s (mark_of instant) instant (lasts _ _ f.repeats) below (λ x. x ≡ None) f.faultless
