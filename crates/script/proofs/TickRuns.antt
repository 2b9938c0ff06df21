-- Some of the ticks of a line.
use Rattle.std.proofs.Common.{◌≡◌, ℕ, suc, ◌+◌, ◌-◌, ◌<◌, ◌≤◌, true, false, List, [], ◌∷◌, fold, Ok, Err, sym, refl, ap, ◌∙◌, subst, arith, add-zero}
use Rattle.board.specs.Log.{Reply}
use Rattle.board.specs.Requests as request
use Rattle.board.specs.declared.call.Grant.{Grant}
use Rattle.lines.specs.declared.command.CallLine.TheVariants.{Tick}
use Rattle.script.specs.Calls.{CallAnswered, CallLineAnswered, Replies, TicksAnswered}
use Rattle.script.specs.Replies.{Said, granted, refused, board_said, is_refused, said_of}
use Rattle.script.specs.Sinks.{Gets, GivesAll, GivesOne, GivesSome, all_said}
use Rattle.script.specs.States.{State, Tallied, once_called, state_after}
use Rattle.script.specs.declared.reply.LineReply.{LineReply}
use Rattle.script.proofs.Only.{granted_one, ticks_one}

-- a board replies the same, whether or not it has been called
called_replies : (s : State) (a : Reply) → Replies request.tick s a → Replies request.tick (once_called s) a
called_replies s a x = record { answers = x.answers; ages = x.ages }

-- no tick
none_answered : (s : State) (rs : List Said) (u : State) → TicksAnswered 0 s rs u → rs ≡ []
none_answered s [] u x = refl
none_answered s (said ∷ rs) u x = absurd x

-- a tick that is granted
record GrantedTick (s : State) (said : Said) (u : State) : Type 0 where
  grant : Grant
  says : said ≡ granted grant
  replies : Replies request.tick (once_called s) (Ok grant)
  state : u ≡ state_after request.tick (Ok grant) s

granted_tick : (s : State) (said : Said) (u : State) → CallAnswered request.tick s (said ∷ []) u → is_refused said ≡ false → GrantedTick s said u
granted_tick s said u x kept = go x.reply x.replies x.says x.state where
  go : (a : Reply) → Replies request.tick s a → said ∷ [] ≡ board_said a ∷ [] → u ≡ state_after request.tick a s → GrantedTick s said u
  go (Ok grant) y says e = record { grant = grant; says = cc; replies = called_replies s (Ok grant) y; state = e }
  go (Err refusal) y says e =
      let is : said ≡ refused refusal = cc in
      let yes : is_refused said ≡ true = ap is_refused is in
      absurd cc

-- a tick that is refused is the last
refused_tick : (n : ℕ) (s : State) (said : Said) (u : State) → CallAnswered request.tick s (said ∷ []) u → is_refused said ≡ true
    → TicksAnswered (suc n) (once_called s) (said ∷ []) u
refused_tick n s said u x last = go x.reply x.replies x.says x.state where
  go : (a : Reply) → Replies request.tick s a → said ∷ [] ≡ board_said a ∷ [] → u ≡ state_after request.tick a s
      → TicksAnswered (suc n) (once_called s) (said ∷ []) u
  go (Ok grant) y says e =
      let is : said ≡ granted grant = cc in
      let no : is_refused said ≡ false = ap is_refused is in
      absurd cc
  go (Err refusal) y says e =
      let is : said ≡ refused refusal = cc in
      subst (λ (r : Said). TicksAnswered (suc n) (once_called s) (r ∷ []) u) (sym is) (called_replies s (Err refusal) y, e)

module _ {Got : Type 0} (with_one : Got → LineReply → Got) where
  -- a granted tick, and so many behind it
  module _ (s u : State) (old now : Got) (reply : LineReply) (takes : now ≡ with_one old reply) (first : GrantedTick s (said_of reply) u) (n : ℕ) where
    more_got : (new : Got) (more : List LineReply) → Gets with_one now new more → Gets with_one old new (reply ∷ more)
    more_got new more e = e ∙ ap (λ (g : Got). fold with_one g more) takes

    answered_more : (rs : List Said) (v : State) → CallLineAnswered (Tick n) u rs v → CallLineAnswered (Tick (suc n)) s (said_of reply ∷ rs) v
    answered_more rs v t =
        subst (λ (r : Said). TicksAnswered (suc n) (once_called s) (r ∷ rs) v) (sym first.says)
        (first.replies, subst (λ (w : State). TicksAnswered n (once_called w) rs v) first.state t)

    answered_first : (all : List Said) (v : State) → CallLineAnswered (Tick (suc n)) s all v
        → (rest : List Said) × (all ≡ said_of reply ∷ rest) × CallLineAnswered (Tick n) u rest v
    answered_first all v t =
        let one = granted_one n (once_called s) first.grant first.replies all v t in (
          one.0,
          one.1 ∙ ap (λ (r : Said). r ∷ one.0) (sym first.says),
          subst (λ (w : State). TicksAnswered n (once_called w) one.0 v) (sym first.state) one.2,
        )

    all_more : (new : Got) (v : State) → GivesAll with_one now new (CallLineAnswered (Tick n)) u v → GivesAll with_one old new (CallLineAnswered (Tick (suc n))) s v
    all_more new v x =
        record {
          replies = reply ∷ x.replies;
          got = more_got new x.replies x.got;
          tallied = x.tallied;
          answered = answered_more (all_said x.replies) v x.answered;
          only = λ all w t.
              let f = answered_first all w t in
              f.1 ∙ ap (λ (rest : List Said). said_of reply ∷ rest) (x.only f.0 w f.2);
        }

    some_more : (new : Got) → GivesSome with_one now new (CallLineAnswered (Tick n)) u → GivesSome with_one old new (CallLineAnswered (Tick (suc n))) s
    some_more new x =
        record {
          replies = reply ∷ x.replies;
          got = more_got new x.replies x.got;
          begins = λ all w t.
              let f = answered_first all w t in
              let b = x.begins f.0 w f.2 in
              (b.0, f.1 ∙ ap (λ (rest : List Said). said_of reply ∷ rest) b.1);
        }

  -- k ticks are granted: what is then given to some more, all of it or a beginning, is so to all
  pub record TicksPassed (old now : Got) (s : State) (k : ℕ) (u : State) : Type 0 where
    pub tallied : Tallied u
    pub all : (n : ℕ) (new : Got) (v : State) → GivesAll with_one now new (CallLineAnswered (Tick n)) u v
        → GivesAll with_one old new (CallLineAnswered (Tick (n + k))) s v
    pub some : (n : ℕ) (new : Got) → GivesSome with_one now new (CallLineAnswered (Tick n)) u
        → GivesSome with_one old new (CallLineAnswered (Tick (n + k))) s

  -- before the first tick
  pub none_passed : (old : Got) (s : State) → Tallied s → TicksPassed old old s 0 s
  none_passed old s t = record { tallied = t; all = λ n new v x. rw add-zero x; some = λ n new x. rw add-zero x }

  module _ (old now : Got) (s : State) (k : ℕ) (u : State) (passed : TicksPassed old now s k u) where
    -- all are granted
    pub all_passed : (n : ℕ) → k ≡ n → u ≡ once_called u → GivesAll with_one old now (CallLineAnswered (Tick n)) s u
    all_passed n e called =
        subst (λ (m : ℕ). GivesAll with_one old now (CallLineAnswered (Tick m)) s u) (omega arith)
        (passed.all 0 now u
        (record { replies = []; got = refl; tallied = passed.tallied; answered = called; only = λ rs v t. none_answered (once_called u) rs v t }))

    -- the sink fails behind these
    pub some_passed : (n : ℕ) (new : Got) → k ≤ n → new ≡ now → GivesSome with_one old new (CallLineAnswered (Tick n)) s
    some_passed n new le e =
        subst (λ (m : ℕ). GivesSome with_one old new (CallLineAnswered (Tick m)) s) (omega arith)
        (passed.some (n - k) new (record { replies = []; got = e; begins = λ rs v t. (rs, refl) }))

    module _ (new : Got) (reply : LineReply) (v : State) (takes : new ≡ with_one now reply) (x : GivesOne (CallAnswered request.tick) u reply v) where
      -- one more is granted
      pub more_passed : is_refused (said_of reply) ≡ false → TicksPassed old new s (k + 1) v
      more_passed kept =
          let first = granted_tick u (said_of reply) v x.answered kept in
          record {
            tallied = x.tallied;
            all = λ n last w y.
                let count : suc n + k ≡ n + (k + 1) = omega arith in
                subst (λ (m : ℕ). GivesAll with_one old last (CallLineAnswered (Tick m)) s w) count
                (passed.all (suc n) last w (all_more u v now new reply takes first n last w y));
            some = λ n last y.
                let count : suc n + k ≡ n + (k + 1) = omega arith in
                subst (λ (m : ℕ). GivesSome with_one old last (CallLineAnswered (Tick m)) s) count
                (passed.some (suc n) last (some_more u v now new reply takes first n last y));
          }

      -- one more is refused, and is the last
      pub refused_passed : (n : ℕ) → k < n → is_refused (said_of reply) ≡ true → GivesAll with_one old new (CallLineAnswered (Tick n)) s v
      refused_passed n less last =
          let m = n - k - 1 in
          let answered = refused_tick m u (said_of reply) v x.answered last in
          subst (λ (m : ℕ). GivesAll with_one old new (CallLineAnswered (Tick m)) s v) (omega arith)
          (passed.all (suc m) new v
          (record {
            replies = reply ∷ [];
            got = takes;
            tallied = x.tallied;
            answered = answered;
            only = λ rs w t. (ticks_one (suc m) (once_called u) (said_of reply ∷ []) rs v w answered t).0;
          }))
