-- How a search over a policy with its books ends is how a walk ends.
use Rattle.std.proofs.Common.{◌≡◌, ℕ, ◌+◌, ◌-◌, true, List, Ok, Err, IsErrAnd, MatchResult, Result, sym, refl, ap, ◌∙◌, subst, inl, inr, arith}
use Rattle.std.proofs.lemmas.Bool.{and_from, and_parts}
use Rattle.readings.specs.Refusals.{content}
use Rattle.readings.specs.declared.refusal.Refusal.{Refusal}
use Rattle.repeat.specs.Finds as search
use Rattle.repeat.specs.Marks.{after, mark_of}
use Rattle.repeat.specs.declared.found.NoRepeat.{NoRepeat}
use Rattle.repeat.specs.declared.found.NoRepeat.TheVariants.{Nowhere}
use Rattle.repeat.specs.declared.found.NoRepeat.TheVariants as end
use Rattle.repeat.specs.declared.found.Repeat.{Repeat}
use Rattle.repeat.proofs.Unique.{only as one_end}
use Rattle.books.specs.Rows.{same_rows}
use Rattle.books.specs.Slots.{books_at, fault_at}
use Rattle.books.specs.declared.fault.Fault.{Fault}
use Rattle.books.specs.declared.row.Row.{Row}
use Rattle.books.proofs.Sames.{rows_from, rows_to}
use Rattle.policy.specs.Course.{Meaning}
use Rattle.walk.specs.Searches.{Searched, walk_meaning}
use Rattle.walk.specs.Steps.{walk_alike, walk_fault, walk_next}
use Rattle.walk.specs.Walks.{Outcome, Walks, end_content, granted, last_instant, refused}
use Rattle.walk.specs.Walks as walks
use Rattle.walk.specs.StepLaws.{fault_is, walk_at}

-- how a search over a policy with its books ends
abbrev pub End : Type 0
End = Result Repeat (NoRepeat Fault)

-- what a walk answers when the search ends so
abbrev pub as_outcome : End → Outcome
as_outcome (Ok found) = granted found.mark (found.instant - found.mark)
as_outcome (Err end) = refused (end_content end)

-- where an end without a repeat is turned into its refusal, that is what the walk answers
pub refusal_told : (r : End) (q : Result Repeat Refusal) (d : Refusal) → MatchResult r (λ found. q ≡ Ok found) (λ end. IsErrAnd q (λ e. content e ≡ end_content end)) → q ≡ Err d → refused (content d) ≡ as_outcome r
refusal_told (Ok found) q d turned is = cc
refusal_told (Err end) q d turned is = ap refused (rw is at turned)

-- where that answers a repeat, it is the one that the search found
pub repeat_found : (r : End) (q : Result Repeat Refusal) (found : Repeat) → MatchResult r (λ found. q ≡ Ok found) (λ end. IsErrAnd q (λ e. content e ≡ end_content end)) → q ≡ Ok found → r ≡ Ok found
repeat_found (Ok x) q found turned is = cc
repeat_found (Err end) q found turned is = absurd (rw is at turned)

module _ {Pos : Type 0} (kind : Meaning Pos) (p : Pos) (rs : List Row) where
  abbrev stands : ℕ → Pos × List Row
  stands n = after (walk_next kind) n (p, rs)

  abbrev Ends : End → Type 0
  Ends = Searched kind (p, rs)

  compares : (t : ℕ) → walk_alike kind (stands t) (stands (mark_of t)) ≡ walk_alike kind (after kind.next t p, books_at (kind.course p) rs t) (after kind.next (mark_of t) p, books_at (kind.course p) rs (mark_of t))
  compares t =
      let a = walk_at kind p rs t in
      let b = walk_at kind p rs (mark_of t) in
      cc

  repeats_to : (t : ℕ) → search.Repeats (walk_meaning kind) (p, rs) t → walks.Repeats kind p rs t
  repeats_to t h = let w = and_parts _ _ (sym (compares t) ∙ h) in (rows_from _ _ w.0, w.1)

  repeats_from : (t : ℕ) → walks.Repeats kind p rs t → search.Repeats (walk_meaning kind) (p, rs) t
  repeats_from t w =
      let same : same_rows (books_at (kind.course p) rs t) (books_at (kind.course p) rs (mark_of t)) ≡ true =
      ap (same_rows (books_at (kind.course p) rs t)) (sym w.0) ∙ rows_to (books_at (kind.course p) rs t) in
      compares t ∙ and_from _ _ same w.1

  faults : (n : ℕ) → walk_fault kind (stands n) ≡ fault_at (kind.course p) rs n
  faults n = fault_is kind p rs n

  faultless_to : (n : ℕ) → search.NoFaultBefore (walk_meaning kind) (p, rs) n → walks.NoFaultBefore kind p rs n
  faultless_to n h m l = sym (faults m) ∙ h m l

  faultless_from : (n : ℕ) → walks.NoFaultBefore kind p rs n → search.NoFaultBefore (walk_meaning kind) (p, rs) n
  faultless_from n h m l = faults m ∙ h m l

  pub walks_from : (f : End) → Ends f → Walks kind p rs (as_outcome f)
  walks_from (Ok found) e =
      let m = found.mark in
      let t = found.instant in
      let same : m + (t - m) ≡ t = let b = e.below in omega arith in
      let back : (P : ℕ → Type 0) → P t → P (m + (t - m)) = λ P. subst P (sym same) in
      record {
        some = let b = e.below in omega arith;
        within = let b = e.below in let w = e.within in omega arith;
        mark_is = back (λ n. m ≡ mark_of n) e.mark_is;
        repeats = back (walks.Repeats kind p rs) (repeats_to t e.repeats);
        faultless = back (walks.NoFaultBefore kind p rs) (faultless_to t e.faultless);
        first = λ u a b w. e.first u a (omega arith) (repeats_from u w);
      }
  walks_from (Err (end.Fault slot met)) e =
      inl (record {
        slot = slot;
        met = met;
        within = e.within;
        is = sym (faults slot) ∙ e.meets;
        faultless = faultless_to slot e.faultless;
        unrepeated = λ u a b w. e.unrepeated u a b (repeats_from u w);
        tells = refl;
      })
  walks_from (Err Nowhere) e =
      inr (record {
        faultless = faultless_to last_instant e.faultless;
        unrepeated = λ u a b w. e.unrepeated u a b (repeats_from u w);
        tells = refl;
      })

  walks_back : (x : Outcome) → Walks kind p rs x → (f : End) × (Ends f × (x ≡ as_outcome f))
  walks_back (granted m l) w =
      let less : (m + l) - m ≡ l = omega arith in (
        Ok (record { mark = m; instant = m + l }),
        (
          record {
            from_one = let s = w.some in omega arith;
            within = w.within;
            mark_is = w.mark_is;
            below = let s = w.some in omega arith;
            repeats = repeats_from (m + l) w.repeats;
            faultless = faultless_from (m + l) w.faultless;
            first = λ u a b h. w.first u a b (repeats_to u h);
          },
          ap (granted m) (sym less),
        ),
      )
  walks_back (refused t) (inl w) = (
    Err (end.Fault w.slot w.met),
    (
      record {
        within = w.within;
        meets = faults w.slot ∙ w.is;
        faultless = faultless_from w.slot w.faultless;
        unrepeated = λ u a b h. w.unrepeated u a b (repeats_to u h);
      },
      ap refused w.tells,
    ),
  )
  walks_back (refused t) (inr w) = (
    Err Nowhere,
    (record { faultless = faultless_from last_instant w.faultless; unrepeated = λ u a b h. w.unrepeated u a b (repeats_to u h) }, ap refused w.tells),
  )

  -- no other outcome would do
  pub walks_only : (f : End) → ((x : End) → Ends x → x ≡ f) → (x : Outcome) → Walks kind p rs x → x ≡ as_outcome f
  walks_only f only x w = let b = walks_back x w in b.1.1 ∙ ap as_outcome (only b.0 b.1.0)

  -- and no two outcomes would do
  pub walks_one : (x y : Outcome) → Walks kind p rs x → Walks kind p rs y → x ≡ y
  walks_one x y v w =
      let a = walks_back x v in
      let b = walks_back y w in
      a.1.1 ∙ ap as_outcome (one_end (walk_meaning kind) (p, rs) last_instant a.0 b.0 a.1.0 b.1.0) ∙ sym b.1.1

-- a walk with new books of these rows, by how its search ended
pub record Walked {Pos : Type 0} (kind : Meaning Pos) (p : Pos) (rs : List Row) (x : Outcome) : Type 0 where
  pub walks : Walks kind p rs x
  pub only : (y : Outcome) → Walks kind p rs y → y ≡ x

pub walked : {Pos : Type 0} (kind : Meaning Pos) (p : Pos) (rs qs : List Row) → rs ≡ qs
    → (f : End)
    → Searched kind (p, rs) f
    → ((x : End) → Searched kind (p, rs) x → x ≡ f)
    → (x : Outcome) → x ≡ as_outcome f → Walked kind p qs x
walked kind p rs qs e f ends only x is =
    subst (λ (ps : List Row). Walked kind p ps x) e
    (subst (Walked kind p rs) (sym is) (record { walks = walks_from kind p rs f ends; only = walks_only kind p rs f only }))
