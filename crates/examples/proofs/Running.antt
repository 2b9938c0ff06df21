-- What the parts of a run of an example come to.
use Rattle.std.proofs.Common.{◌≡◌, ℕ, ◌↔◌, Bool, IsTrue, List, Ok, Err, Result, sym, ◌∙◌, subst, arith}
use Rattle.std.specs.Prelude.{IfOk, OnErr}
use Rattle.readings.specs.Refusals.{Content}
use Rattle.readings.specs.declared.reading.Reading.{Reading}
use Rattle.readings.specs.declared.refusal.Refusal.{Refusal}
use Rattle.planner.specs.Periods.{more_less}
use Rattle.planner.specs.declared.timing.Timing.{Timing}
use Rattle.periodic.specs.Meanings.{periodic_meaning}
use Rattle.periodic.specs.Phases.{periodic_course}
use Rattle.periodic.specs.declared.phase.Phase.{Phase}
use Rattle.books.specs.Slots.{books_at}
use Rattle.books.specs.declared.row.Row.{Row}
use Rattle.walk.specs.Acceptance.{Accepts}
use Rattle.walk.specs.Crossings.{MayCross}
use Rattle.walk.specs.Walks.{Outcome, Walks, granted, refused}
use Rattle.examples.specs.Lists.{MoreLessGives, first_phases, new_books, readings_x, readings_y}
use Rattle.examples.specs.Rules.{RulesGive, XToY}
use Rattle.examples.specs.Runs.{Faulty, slot_ending}
use Rattle.examples.specs.declared.ending.Ending.{Ending}
use Rattle.examples.specs.declared.ending.Ending.TheVariants.{Says}
use Rattle.examples.specs.declared.example.Example.TheVariants.{RowThreeOfY}
use Rattle.examples.proofs.Gives.{age_twelve}
use Rattle.examples.proofs.Walked.{faultless_x, faultless_y, given_x, given_y, known, timings_x, timings_y, walks_x, walks_y}

-- a policy stands at the start of the timings that More-Less gives
abbrev pub Begins : List Reading → List Phase → Type 0
Begins ds p = MoreLessGives ds (λ ts. p ≡ first_phases ts)

module _ (rs : List Reading) (us : List Timing) (gives : more_less rs ≡ Ok us) (ds : List Reading) (p : List Phase) (e : ds ≡ rs) (b : Begins ds p) where
  -- which timings these are is known
  begins_at : p ≡ first_phases us
  begins_at =
      known rs us gives (λ ts. p ≡ first_phases ts) (subst (λ (d : List Reading). Begins d p) e b)

  settled : (P : List Reading → List Phase → Type 0) → P ds p → P rs (first_phases us)
  settled P t = subst (P rs) begins_at (subst (λ (d : List Reading). P d p) e t)

-- no slot of X or of Y has a fault
pub no_fault_x : (ds : List Reading) (p : List Phase) → ds ≡ readings_x → Begins ds p
    → Faulty (periodic_course p) ds → ⊥
no_fault_x ds p e b f =
    let t = settled readings_x timings_x given_x ds p e b (λ d q. Faulty (periodic_course q) d) f in
    t.1 (faultless_x t.0)

no_fault_y : (ds : List Reading) (p : List Phase) → ds ≡ readings_y → Begins ds p
    → Faulty (periodic_course p) ds → ⊥
no_fault_y ds p e b f =
    let t = settled readings_y timings_y given_y ds p e b (λ d q. Faulty (periodic_course q) d) f in
    t.1 (faultless_y t.0)

-- a walk that is granted is not refused
apart : (m n : ℕ) (t : Content) → granted m n ≡ refused t → ⊥
apart m n t e = let z : ◌≡◌ {A = ℕ} 0 1 = cc in omega arith

abbrev Refuses : Content → List Reading → List Phase → Type 0
Refuses t ds p = (x : Outcome) → Walks periodic_meaning p (new_books ds) x → x ≡ refused t

pub no_refusal_x : (ds : List Reading) (p : List Phase) (t : Content) → ds ≡ readings_x
    → Begins ds p → Refuses t ds p → ⊥
no_refusal_x ds p t e b f =
    apart 31 28 t
    (settled readings_x timings_x given_x ds p e b (Refuses t) f (granted 31 28) walks_x)

pub no_refusal_y : (ds : List Reading) (p : List Phase) (t : Content) → ds ≡ readings_y
    → Begins ds p → Refuses t ds p → ⊥
no_refusal_y ds p t e b f =
    apart 7 6 t (settled readings_y timings_y given_y ds p e b (Refuses t) f (granted 7 6) walks_y)

-- one slot more along the course of Y ends as the rules have it
pub slot_told : (ds : List Reading) (p : List Phase) → ds ≡ readings_y → Begins ds p
    → (r : Result Ending Refusal) → IfOk r (λ a. a ≡ slot_ending (periodic_course p) ds 11 9)
    → OnErr r (Faulty (periodic_course p) ds) → RulesGive RowThreeOfY r
unfolding RulesGive
slot_told ds p e b (Ok a) ok err =
    let is = settled readings_y timings_y given_y ds p e b (λ d q. a ≡ slot_ending (periodic_course q) d 11 9) ok in
    subst (λ (x : Ending). RulesGive RowThreeOfY (Ok x)) (sym is) (timings_y, (given_y, age_twelve))
slot_told ds p e b (Err r) ok err = absurd (no_fault_y ds p e b err)

pub crossing_told : (xs ys zs : List Reading) (p q : List Phase) (n : ℕ) (rs : List Row) (fs : List ℕ) (said : Bool)
    → xs ≡ readings_x → Begins xs p → ys ≡ readings_y → Begins ys q
    → rs ≡ books_at (periodic_course p) (new_books xs) n → zs ≡ ys
    → Accepts (periodic_course q) (new_books ys) fs → (IsTrue said ↔ MayCross rs zs fs)
    → XToY n (Ok (Says said))
crossing_told xs ys zs p q n rs fs said e b f d old same accepts says =
    let k : rs ≡ books_at (periodic_course (first_phases timings_x)) (new_books readings_x) n = settled readings_x timings_x given_x xs p e b (λ ds o. rs ≡ books_at (periodic_course o) (new_books ds) n) old in
    let a = settled readings_y timings_y given_y ys q f d (λ ds o. Accepts (periodic_course o) (new_books ds) fs) accepts in (
      timings_x,
      (
        given_x,
        (
          timings_y,
          (
            given_y,
            record {
              finishes = fs;
              first = a.finish;
              says = subst (λ (os : List Row). IsTrue said ↔ MayCross os readings_y fs) k (subst (λ (ds : List Reading). IsTrue said ↔ MayCross rs ds fs) (same ∙ f) says);
            },
          ),
        ),
      ),
    )
