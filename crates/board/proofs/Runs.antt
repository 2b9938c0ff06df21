-- A run of calls to one board.
use Rattle.std.proofs.Common.{List, [], ◌∷◌, ◌++◌, ◌≡◌, Some, None, Option, sym, refl, ap, ◌∙◌, subst}
use Rattle.policy.specs.declared.policy.Policy.{Ghosts}
use Rattle.board.specs.Answers.{Answers, NoneStale}
use Rattle.board.specs.Held.{log_of, log_of_run}
use Rattle.board.specs.History.{History}
use Rattle.board.specs.Log.{Log, Reply, log_after}
use Rattle.board.specs.Promise.{AllAnswered, AllMean, KeepsPromise, history_after_all, log_after_all}
use Rattle.board.specs.Requests.{Request}
use Rattle.board.specs.Tallies.{Tallies}
use Rattle.board.specs.declared.board.Board.{Board}
use Rattle.board.specs.declared.run.Run.{Run}
use Rattle.board.proofs.Steadying.{steady_sound}
use Rattle.board.proofs.Whole.{answered_more, history_more, log_more, mean_more}

module _ {P : Type 0} {kind : Ghosts P} where
  -- so far the calls were answered by the log, and the board holds what was noted of them
  pub record SoFar (first now : Board P kind) (calls : List (Request kind.Position)) (replies : List Reply) : Type 0 where
    pub answered : AllAnswered kind.meaning (log_of first) calls replies
    pub log : log_of now ≡ log_after_all kind.meaning calls replies (log_of first)
    pub ages : (h : History) → Tallies (log_of first) h → AllMean h calls replies
    pub tallies : (h : History) → Tallies (log_of first) h → Tallies (log_of now) (history_after_all calls replies h)

  run_sound : (o : Option (Run P kind)) → NoneStale (log_of_run o)
  run_sound None = tt
  run_sound (Some r) = steady_sound _ _ r.lasting.steady

  pub none_yet : (b : Board P kind) → SoFar b b [] []
  none_yet b = record { answered = run_sound b.run; log = refl; ages = λ h t. tt; tallies = λ h t. t }

  -- one call more
  pub one_more : (first now after : Board P kind) (calls : List (Request kind.Position)) (replies : List Reply) (c : Request kind.Position) (a : Reply)
      → SoFar first now calls replies → KeepsPromise now c a after → SoFar first after (calls ++ c ∷ []) (replies ++ a ∷ [])
  one_more first now after calls replies c a s k =
      let m = kind.meaning in
      let on = k.log ∙ ap (log_after m c a) s.log in
      record {
        answered = answered_more m (log_of first) calls replies c a s.answered (subst (λ (l : Log). Answers m l c a) s.log k.answers) (subst NoneStale on k.still_sound);
        log = on ∙ sym (log_more m (log_of first) calls replies c a s.answered);
        ages = λ h t. mean_more m (log_of first) h calls replies c a s.answered (s.ages h t) (k.ages (history_after_all calls replies h) (s.tallies h t));
        tallies = λ h t.
            subst (Tallies (log_of after)) (sym (history_more m (log_of first) h calls replies c a s.answered))
            (k.tallies (history_after_all calls replies h) (s.tallies h t));
      }
