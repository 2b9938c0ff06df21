-- A walk as a function that can be computed, and what a granted walk says of the same policy when its comparison
-- always says no.
use Rattle.std.proofs.Common.{◌≡◌, ℕ, ◌+◌, ◌<◌, false, true, List, [], None, sym, refl, ◌∙◌, subst, inr, arith}
use Rattle.std.proofs.lemmas.Bool.{both_ways}
use Rattle.repeat.specs.Marks.{after, mark_of}
use Rattle.repeat.specs.SearchStep.{search_from}
use Rattle.repeat.proofs.Ever.{ever_shown}
use Rattle.repeat.proofs.Look.{look_finds}
use Rattle.repeat.specs.Looking.{look}
use Rattle.repeat.proofs.Unique.{only}
use Rattle.books.specs.Slots.{books_at, fault_at}
use Rattle.readings.specs.Firsts.{first_of}
use Rattle.books.specs.declared.row.Row.{Row}
use Rattle.books.proofs.Ages.{stay_equal}
use Rattle.policy.specs.Course.{Meaning}
use Rattle.walk.specs.Searches.{Searched, walk_meaning}
use Rattle.walk.specs.Steps.{walk_fault, walk_next}
use Rattle.walk.specs.Walks.{Grants, Outcome, Walks, last_instant, refused}
use Rattle.walk.proofs.Ends.{End, as_outcome, walks_from, walks_only}
use Rattle.walk.specs.StepLaws.{fault_is, walk_at}

module _ {Pos : Type 0} (kind : Meaning Pos) where
  -- what a walk of at most so many slots answers
  unfoldable pub walk_within : ℕ → Pos → List Row → Outcome
  walk_within limit p rs =
      as_outcome (look (walk_meaning kind) limit 0 (search_from (p, rs)))

-- what has to unfold where a walk is computed
unfoldable pub walk_computes : Unit {0}
unfolding walk_within look first_of
walk_computes = tt

module _ {Pos : Type 0} (kind : Meaning Pos) (p : Pos) (rs : List Row) where
  abbrev found : End
  found = look (walk_meaning kind) last_instant 0 (search_from (p, rs))

  finds : Searched kind (p, rs) found
  finds = look_finds (walk_meaning kind) (p, rs) last_instant

  -- what it answers is how the walk ends
  pub walks_computed : (x : Outcome) → walk_within kind last_instant p rs ≡ x → Walks kind p rs x
  unfolding walk_within
  walks_computed x e = subst (Walks kind p rs) e (walks_from kind p rs found finds)

  -- a walk has one outcome only
  pub walks_one : (x y : Outcome) → Walks kind p rs x → Walks kind p rs y → x ≡ y
  walks_one x y v w =
      let is : (z : Outcome) → Walks kind p rs z → z ≡ as_outcome found = walks_only kind p rs found (λ f h. only _ _ _ f found h finds) in
      is x v ∙ sym (is y w)

  -- a walk that was granted, where the courses agree from the repeat and from its mark on
  module _ (mark length : ℕ) (w : Grants kind p rs mark length) (agree : (n : ℕ) → kind.course (after kind.next (mark + length) p) n ≡ kind.course (after kind.next (mark_of (mark + length)) p) n) where
    abbrev stands : ℕ → Pos × List Row
    stands n = after (walk_next kind) n (p, rs)

    -- the faults from instant t on are those of the books and the course there
    faults_from : (t n : ℕ) → walk_fault kind (after (walk_next kind) n (stands t)) ≡ fault_at (kind.course (after kind.next t p)) (books_at (kind.course p) rs t) n
    faults_from t n =
        let a = walk_at kind p rs t in
        let b = fault_is kind (after kind.next t p) (books_at (kind.course p) rs t) n in
        cc

    again : (n : ℕ) → walk_fault kind (after (walk_next kind) n (stands (mark + length))) ≡ walk_fault kind (after (walk_next kind) n (stands (mark_of (mark + length))))
    again n =
        faults_from (mark + length) n
        ∙ (stay_equal _ _ w.repeats.0 _ _ agree n).1
        ∙ sym (faults_from (mark_of (mark + length)) n)

    faults : (n : ℕ) → walk_fault kind (stands n) ≡ fault_at (kind.course p) rs n
    faults n = fault_is kind p rs n

    -- no slot, however far ahead, has a fault
    pub granted_faultless : (n : ℕ) → fault_at (kind.course p) rs n ≡ None
    granted_faultless n =
        let t = mark + length in
        let below : mark_of t < t = let m = w.mark_is in let s = w.some in omega arith in
        sym (faults n) ∙ ever_shown (walk_fault kind) (walk_next kind) (p, rs) (mark_of t) t again below (λ x. x ≡ None) (λ m l. faults m ∙ w.faultless m l) n

    -- and so the same policy is refused for want of a repeat if its comparison always says no
    pub doubted : (never : (x y : Pos) → false ≡ true → (n : ℕ) → kind.course x n ≡ kind.course y n)
        → Walks (record { course = kind.course; next = kind.next; alike = λ _ _. false; onward = kind.onward; agree = never }) p rs (refused (13, []))
    doubted never = inr (record { faultless = λ n l. granted_faultless n; unrepeated = λ t a b r. both_ways false refl r.1; tells = refl })
