-- A laid strip that is played in a loop: the jobs of all rows go on for ever.
use Rattle.std.proofs.Common.{◌≡◌, ◌≢◌, ℕ, zero, suc, ◌+◌, ◌-◌, ◌<◌, ◌≤◌, ◌↔◌, ◌||◌, true, nat_lt, ltb, ◌==◌, EachIndex, List, length, slice_index_or, refl, sym, ◌∙◌, subst, inl, inr, add-one, arith}
use Rattle.std.specs.Prelude.{⊤}
use Rattle.std.proofs.lemmas.Bool.{cases_eq, cases_lt, le-ltb, lt-ltb, or_right}
use Rattle.readings.specs.Ranges.{blank}
use Rattle.readings.specs.declared.reading.Reading.{Reading}
use Rattle.deferral.specs.Free.{Play, free_below, play_of}
use Rattle.deferral.specs.Jobs.{Jobs}
use Rattle.deferral.specs.Laid.{Laid}
use Rattle.deferral.specs.declared.span.Span.{Span}
use Rattle.walk.specs.Loops.{in_loop}
use Rattle.strip.proofs.Looped.{looped}
use Rattle.strip.proofs.RowGoesOn.{PlayedOn, job, leaves_less, row_agrees, row_goes_on}
use Rattle.strip.proofs.Turns.{Turn}

-- where row k + 1 does not run, a row past it runs if a row past row k does
past_row : (k x : ℕ) → x ≢ k + 1 → ltb (k + 1) x ≡ ltb k x
past_row k x other =
    elim (cases_lt k x) [
      | inl past ↦
          elim (cases_lt (k + 1) x) [
            | inl more ↦ lt-ltb (k + 1) x more ∙ sym (lt-ltb k x past)
            | inr here ↦ absurd (other (omega arith))
          ]
      | inr there ↦ le-ltb (k + 1) x (omega arith) ∙ sym (le-ltb k x there)
    ]

-- where two plays agree on the rows above row k + 1 and on row k + 1, they agree on those above the next
free_next : (k x y : ℕ) → (x == 0 || nat_lt k x) ≡ (y == 0 || nat_lt k y) → (x ≡ k + 1) ↔ (y ≡ k + 1) → (x == 0 || nat_lt (k + 1) x) ≡ (y == 0 || nat_lt (k + 1) y)
free_next k x y same row =
    elim (cases_eq x (k + 1)) [
      | inl here ↦ let there = row.0 here in cc
      | inr other ↦
          let a = past_row k x other in
          let b = past_row k y (λ e. other (row.1 e)) in
          cc
    ]

-- above row 1 there is none
free_first : (x : ℕ) → (x == 0 || nat_lt 0 x) ≡ true
free_first zero = refl
free_first (suc x) = or_right (suc x == 0) (nat_lt 0 (suc x)) (lt-ltb 0 (suc x) (omega arith))

-- the jobs of each row go on for ever along a play
abbrev pub GoOn : List Reading → Play → Type 0
GoOn rs play = EachIndex rs (λ k.
    (spans : ℕ → Span) × Jobs play k (slice_index_or rs k blank).work (slice_index_or rs k blank).validity spans (λ j. ⊤))

-- each row of a laid strip is at t as it was at m
abbrev pub TurnsOf : {rs : List Reading} {n : ℕ} {slots : List ℕ} {limit : ℕ} → Laid rs n slots limit → (m t : ℕ) → Type 0
TurnsOf {rs} {n} {slots} {limit} laid m t =
    (k : ℕ) → (h : k < length rs) → Turn (free_below (play_of slots) k) (laid.rows k h).spans (laid.rows k h).last m t

module _ (rs : List Reading) (n : ℕ) (slots : List ℕ) (limit m t : ℕ) (play : Play) (laid : Laid rs n slots limit) (works : EachIndex rs (λ k. 0 < (slice_index_or rs k blank).work)) (long : t ≤ limit) (played : PlayedOn (play_of slots) play m t) (turns : TurnsOf laid m t) where
  -- the limits fall from row to row
  limits_fall : (k x : ℕ) → k + x ≤ length rs → laid.limits (k + x) ≤ laid.limits k
  limits_fall k zero h = let z : k + 0 ≡ k = omega arith in rw z (omega arith)
  limits_fall k (suc x) h =
      let e : k + suc x ≡ k + x + 1 = omega arith in
      let less = leaves_less (play_of slots) (k + x) (slice_index_or rs (k + x) blank) (laid.limits (k + x)) (laid.limits (k + x + 1)) (laid.rows (k + x) (omega arith)) in
      rw e (omega (arith, less, limits_fall k x (omega arith)))

  -- so slot t is below each
  below : (k : ℕ) → k ≤ length rs → t ≤ laid.limits k
  below k h =
      let e : k + (length rs - k) ≡ length rs = omega arith in
      omega (arith, subst (λ (x : ℕ). laid.limits x ≤ laid.limits k) e (limits_fall k (length rs - k) (omega arith)), laid.to)

  -- below its limit the same slots are free for each row along the play as in the strip
  pub same_free : (k : ℕ) → k ≤ length rs → (q : ℕ) → q < laid.limits k → free_below play k q ≡ free_below (play_of slots) k q
  same_free zero h q l = free_first (play q) ∙ sym (free_first (play_of slots q))
  same_free (suc k) h q l =
      let next = add-one k in
      let l' : q < laid.limits (k + 1) = rw next l in
      let row = laid.rows k h in
      let less = leaves_less (play_of slots) k (slice_index_or rs k blank) (laid.limits k) (laid.limits (k + 1)) row in
      let due : t ≤ laid.limits (k + 1) = rw next (below (suc k) h) in
      let above = same_free k (omega arith) in
      let here = row_agrees (play_of slots) play k (slice_index_or rs k blank) (laid.limits k) (laid.limits (k + 1)) m t (works k h) played row due above (turns k h) q l' in
      rw (← next) (free_next k (play q) (play_of slots q) (above q (omega (arith, less, l'))) here)

  -- so the jobs of all rows go on for ever
  pub extended : GoOn rs play
  extended k h =
      let row = laid.rows k h in
      let due : t ≤ laid.limits (k + 1) = below (k + 1) (omega arith) in
      let above = same_free k (omega arith) in (
        job (play_of slots) play k (slice_index_or rs k blank) (laid.limits k) (laid.limits (k + 1)) m t (works k h) played row due above (turns k h),
        row_goes_on (play_of slots) play k (slice_index_or rs k blank) (laid.limits k) (laid.limits (k + 1)) m t (works k h) played row due above (turns k h),
      )

-- a laid strip whose slots from m on and before t are played in a loop
pub extended_in_loop : (rs : List Reading) (n : ℕ) (slots : List ℕ) (limit m t : ℕ) (play : Play) (laid : Laid rs n slots limit) → m < t → t ≤ limit → EachIndex rs (λ k. 0 < (slice_index_or rs k blank).work)
    → ((q : ℕ) → play q ≡ play_of slots (in_loop m (t - m) q))
    → TurnsOf laid m t → GoOn rs play
extended_in_loop rs n slots limit m t play laid some long works plays turns =
    extended rs n slots limit m t play laid works long (looped (play_of slots) play m t some plays) turns
