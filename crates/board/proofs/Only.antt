-- A log allows one reply to each call, and so one run of replies to any calls.
use Rattle.std.proofs.Common.{◌≡◌, ℕ, Bool, true, false, ltb, List, [], ◌∷◌, map, Some, None, Option, MatchOption, MatchBool, Err, sym, refl, ◌∙◌, subst, inl, inr}
use Rattle.std.proofs.lemmas.Bool.{cases_order}
use Rattle.readings.specs.declared.reading.Reading.{Reading}
use Rattle.policy.specs.Course.{Course, Meaning}
use Rattle.books.specs.Rows.{come_on}
use Rattle.walk.specs.Walks.{Outcome, granted, refused}
use Rattle.walk.proofs.Ends.{walks_one}
use Rattle.board.specs.Answers.{Answers, FirstGood, NoneGood, Starts, Switches, WalkAnswers}
use Rattle.board.specs.Log.{Crossing, Log, Reply, Running, log_after, resting, running}
use Rattle.board.specs.Promise.{AllAnswered}
use Rattle.board.specs.Requests.{Request, start, tick, switch, show, stop}

starts_one : (a b : Reply) (x y : Outcome) → x ≡ y → Starts a x → Starts b y → a ≡ b
starts_one a b x y same s t = go x s (subst (Starts b) (sym same) t) where
  go : (o : Outcome) → Starts a o → Starts b o → a ≡ b
  go (granted m l) u v = u ∙ sym v
  go (refused c) u v = u ∙ sym v

module _ (g : Running) (list : List Reading) (course : Course) (latency : ℕ) (a b : Reply) where
  firsts_one : FirstGood g list course latency a → FirstGood g list course latency b → a ≡ b
  firsts_one x y =
      elim (cases_order x.ticks y.ticks) [
        | inl same ↦ let e = x.answer in let f = y.answer in cc
        | inr (inl less) ↦ absurd (y.first x.ticks less x.good)
        | inr (inr more) ↦ absurd (x.first y.ticks more y.good)
      ]

  first_none : FirstGood g list course latency a → NoneGood g list course latency b → ⊥
  first_none x y = y.none x.ticks x.within x.good

switches_one : (g : Running) (list : List Reading) (course : Course) (latency : ℕ) (a b : Reply) (x y : Outcome) → x ≡ y
    → Switches g list course latency a x → Switches g list course latency b y → a ≡ b
switches_one g list course latency a b x y same s t = go x s (subst (Switches g list course latency b) (sym same) t) where
  go : (o : Outcome) → Switches g list course latency a o → Switches g list course latency b o → a ≡ b
  go (granted m l) (inl u) (inl v) = firsts_one g list course latency a b u v
  go (granted m l) (inl u) (inr v) = absurd (first_none g list course latency a b u v)
  go (granted m l) (inr u) (inl v) = absurd (first_none g list course latency b a v u)
  go (granted m l) (inr u) (inr v) = u.answer ∙ sym v.answer
  go (refused c) u v = u ∙ sym v

checks_one : (o : Option Crossing) (late : Bool) (a b : Reply) {A B : Type 0}
    → MatchOption o (MatchBool late (a ≡ Err (17, [])) A) (λ w. a ≡ Err (16, []))
    → MatchOption o (MatchBool late (b ≡ Err (17, [])) B) (λ w. b ≡ Err (16, [])) → (A → B → a ≡ b) → a ≡ b
checks_one (Some w) late a b s t rest = s ∙ sym t
checks_one None true a b s t rest = s ∙ sym t
checks_one None false a b s t rest = rest s t

module _ {Pos : Type 0} (kind : Meaning Pos) where
  outcomes_one : (list : List Reading) (p : Pos) (A B : Outcome → Type 0) (x : WalkAnswers kind list p A) (y : WalkAnswers kind list p B) → x.outcome ≡ y.outcome
  outcomes_one list p A B x y = walks_one kind p (map come_on list) x.outcome y.outcome x.walks y.walks

  pub answers_one : (log : Log) (call : Request Pos) (a b : Reply) → Answers kind log call a → Answers kind log call b → a ≡ b
  answers_one resting (start list p) a b x y =
      starts_one a b x.outcome y.outcome (outcomes_one list p (Starts a) (Starts b) x y) x.answers y.answers
  answers_one resting tick a b x y = x ∙ sym y
  answers_one resting (switch list p latency) a b x y = x ∙ sym y
  answers_one resting (show id) a b x y = x ∙ sym y
  answers_one resting stop a b x y = x ∙ sym y
  answers_one (running g) (start list p) a b x y = x ∙ sym y
  answers_one (running g) tick a b x y = x.answer ∙ sym y.answer
  answers_one (running g) (switch list p latency) a b x y =
      checks_one g.waiting (ltb 4095 latency) a b x y (λ u v.
      switches_one g list (kind.course p) latency a b u.outcome v.outcome
      (outcomes_one list p (Switches g list (kind.course p) latency a) (Switches g list (kind.course p) latency b) u v) u.answers v.answers)
  answers_one (running g) (show id) a b x y = x ∙ sym y
  answers_one (running g) stop a b x y = x ∙ sym y

  pub run_one : (log : Log) (calls : List (Request Pos)) (xs ys : List Reply) → AllAnswered kind log calls xs → AllAnswered kind log calls ys → xs ≡ ys
  run_one log [] [] [] r q = refl
  run_one log [] [] (y ∷ ys) r q = absurd q
  run_one log [] (x ∷ xs) ys r q = absurd r
  run_one log (call ∷ calls) [] ys r q = absurd r
  run_one log (call ∷ calls) (x ∷ xs) [] r q = absurd q
  run_one log (call ∷ calls) (x ∷ xs) (y ∷ ys) r q =
      let e = answers_one log call x y r.1 q.1 in
      let q' : AllAnswered kind (log_after kind call x log) calls ys =
      subst (λ (z : Reply). AllAnswered kind (log_after kind call z log) calls ys) (sym e) q.2 in
      let rest = run_one (log_after kind call x log) calls xs ys r.2 q' in
      cc
