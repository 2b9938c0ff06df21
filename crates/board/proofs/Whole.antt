-- A run of calls grows by one call.
use Rattle.std.proofs.Common.{◌≡◌, ℕ, zero, suc, ◌+◌, ◌<◌, List, [], ◌∷◌, ◌++◌, length, map, take, drop, get_or, sym, refl, ap, ◌∙◌, add-one}
use Rattle.std.proofs.lemmas.List.{map-append, take_more}
use Rattle.policy.specs.Course.{Meaning}
use Rattle.board.specs.Ages.{Means}
use Rattle.board.specs.Answers.{Answers, NoneStale}
use Rattle.board.specs.History.{History, history_after}
use Rattle.board.specs.Log.{Log, Reply, log_after}
use Rattle.board.specs.Promise.{AllAnswered, AllMean, history_after_all, log_after_all}
use Rattle.board.specs.Requests.{Request}

-- what is left behind one place more
pub drop_one : {A : Type 0} (k : ℕ) (xs : List A) → drop (k + 1) xs ≡ drop 1 (drop k xs)
drop_one zero xs = refl
drop_one (suc k) [] = rw add-one refl
drop_one (suc k) (x ∷ xs) = let i = drop_one k xs in rw add-one (rw add-one at i)

-- a list up to the place k and then there, seen by a function
pub longer : {A B : Type 0} (f : A → B) (xs : List A) (k : ℕ) (x : A) → k < length xs → x ≡ get_or xs k x → map f (take (k + 1) xs) ≡ map f (take k xs) ++ f x ∷ []
longer f xs k x h read =
    ap (map f) (take_more xs k x h ∙ ap (λ y. take k xs ++ y ∷ []) (sym read)) ∙ map-append f (take k xs) (x ∷ [])

module _ {Pos : Type 0} (kind : Meaning Pos) where
  pub answered_more : (log : Log) (calls : List (Request Pos)) (replies : List Reply) (c : Request Pos) (a : Reply) → AllAnswered kind log calls replies
      → Answers kind (log_after_all kind calls replies log) c a → NoneStale (log_after kind c a (log_after_all kind calls replies log))
      → AllAnswered kind log (calls ++ c ∷ []) (replies ++ a ∷ [])
  answered_more log [] [] c a s x t = (s, x, t)
  answered_more log [] (y ∷ ys) c a s x t = absurd s
  answered_more log (call ∷ calls) [] c a s x t = absurd s
  answered_more log (call ∷ calls) (y ∷ ys) c a s x t = (s.0, s.1, answered_more (log_after kind call y log) calls ys c a s.2 x t)

  pub log_more : (log : Log) (calls : List (Request Pos)) (replies : List Reply) (c : Request Pos) (a : Reply) → AllAnswered kind log calls replies
      → log_after_all kind (calls ++ c ∷ []) (replies ++ a ∷ []) log ≡ log_after kind c a (log_after_all kind calls replies log)
  log_more log [] [] c a s = refl
  log_more log [] (y ∷ ys) c a s = absurd s
  log_more log (call ∷ calls) [] c a s = absurd s
  log_more log (call ∷ calls) (y ∷ ys) c a s = log_more (log_after kind call y log) calls ys c a s.2

  pub history_more : (log : Log) (h : History) (calls : List (Request Pos)) (replies : List Reply) (c : Request Pos) (a : Reply) → AllAnswered kind log calls replies
      → history_after_all (calls ++ c ∷ []) (replies ++ a ∷ []) h ≡ history_after c a (history_after_all calls replies h)
  history_more log h [] [] c a s = refl
  history_more log h [] (y ∷ ys) c a s = absurd s
  history_more log h (call ∷ calls) [] c a s = absurd s
  history_more log h (call ∷ calls) (y ∷ ys) c a s = history_more (log_after kind call y log) (history_after call y h) calls ys c a s.2

  pub mean_more : (log : Log) (h : History) (calls : List (Request Pos)) (replies : List Reply) (c : Request Pos) (a : Reply) → AllAnswered kind log calls replies
      → AllMean h calls replies → Means c (history_after_all calls replies h) a → AllMean h (calls ++ c ∷ []) (replies ++ a ∷ [])
  mean_more log h [] [] c a s m x = (x, tt)
  mean_more log h [] (y ∷ ys) c a s m x = absurd s
  mean_more log h (call ∷ calls) [] c a s m x = absurd s
  mean_more log h (call ∷ calls) (y ∷ ys) c a s m x = (m.0, mean_more (log_after kind call y log) (history_after call y h) calls ys c a s.2 m.1 x)
