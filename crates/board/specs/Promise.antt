-- Part of the promise: what every board keeps, in one call and in a run of calls.
use Rattle.std.specs.Prelude.{◌≡◌, List, [], ◌∷◌}
use Rattle.policy.specs.Course.{Meaning}
use Rattle.policy.specs.declared.policy.Policy.{Ghosts}
use Rattle.board.specs.Ages.{Means}
use Rattle.board.specs.Answers.{Answers, NoneStale}
use Rattle.board.specs.Held.{log_of}
use Rattle.board.specs.History.{History, history_after}
use Rattle.board.specs.Log.{Log, Reply, log_after}
use Rattle.board.specs.Requests.{Request}
use Rattle.board.specs.Tallies.{Tallies}
use Rattle.board.specs.declared.board.Board.{Board}

-- one call from a board to a board
module _ {P : Type 0} {kind : Ghosts P} where
  -- it finds the board b, is answered by a, and leaves the board c
  pub record KeepsPromise (b : Board P kind) (call : Request kind.Position) (a : Reply)
      (c : Board P kind) : Type 0 where
    -- nothing is stale before the call
    pub sound : NoneStale (log_of b)
    -- it is answered as the log that the board holds would
    pub answers : Answers kind.meaning (log_of b) call a
    -- no other answer would do
    pub only : (other : Reply) → Answers kind.meaning (log_of b) call other → other ≡ a
    -- the board then holds what the log notes
    pub log : log_of c ≡ log_after kind.meaning call a (log_of b)
    -- nothing is stale after the call
    pub still_sound : NoneStale (log_of c)
    -- an age that it shows means what the calls and replies before it say, and so will later ones
    pub ages : (h : History) → Tallies (log_of b) h → Means call h a
    pub tallies : (h : History) → Tallies (log_of b) h → Tallies (log_of c) (history_after call a h)

-- a run of calls
module _ {Pos : Type 0} (meaning : Meaning Pos) where
  -- each call is answered by the log, and nothing is stale before, between and after them
  abbrev pub AllAnswered : Log → List (Request Pos) → List Reply → Type 0
  AllAnswered log [] [] = NoneStale log
  AllAnswered log (call ∷ calls) (a ∷ replies) =
      NoneStale log
      × Answers meaning log call a
      × AllAnswered (log_after meaning call a log) calls replies
  AllAnswered log _ _ = ⊥

  -- the log after a run of calls
  abbrev pub log_after_all : List (Request Pos) → List Reply → Log → Log
  log_after_all (call ∷ calls) (a ∷ replies) log =
      log_after_all calls replies (log_after meaning call a log)
  log_after_all _ _ log = log

-- each age that is shown means what the calls and replies before it say
abbrev pub AllMean : {Pos : Type 0} → History → List (Request Pos) → List Reply → Type 0
AllMean h (call ∷ calls) (a ∷ replies) =
    Means call h a × AllMean (history_after call a h) calls replies
AllMean h _ _ = Unit {0}

-- the history after a run of calls
abbrev pub history_after_all : {Pos : Type 0} → List (Request Pos) → List Reply → History → History
history_after_all (call ∷ calls) (a ∷ replies) h =
    history_after_all calls replies (history_after call a h)
history_after_all _ _ h = h
