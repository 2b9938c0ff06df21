-- The lines of a text, one after the other.
use Rattle.std.proofs.Common.{◌≡◌, ℕ, ◌<◌, Bool, true, false, List, [], ◌∷◌, ◌++◌, length, map, fold, leb, MatchBool, sym, refl, ap, ◌∙◌, subst, append_assoc, arith}
use Rattle.std.proofs.lemmas.List.{append-nil, map-append}
use Rattle.std.proofs.lemmas.List.Sums.{fold-append}
use Rattle.std.proofs.lemmas.Bool.{both_ways}
use Rattle.std.proofs.lemmas.Bool.Decides.{nat_tests}
use Rattle.lines.specs.Left.{none_left}
use Rattle.lines.specs.Pieces.{pieces}
use Rattle.lines.specs.Words.{command_of}
use Rattle.readings.specs.declared.refusal.Refusal.TheVariants.{BadLine}
use Rattle.script.specs.Lines.{LineAnswered, ends_plans}
use Rattle.script.specs.Replies.{Said, refused, said_of}
use Rattle.script.specs.Sinks.{AnswersLines, AnswersText, BeginsLines, Gets, GivesAll, GivesSome, all_said, concatenation}
use Rattle.script.specs.States.{State, first_state, once_called}
use Rattle.script.specs.Stops.{IfMemory, IfSink}
use Rattle.script.specs.Texts.{LinesAnswered}
use Rattle.script.specs.declared.reply.LineReply.{LineReply}
use Rattle.script.specs.declared.reply.LineReply.TheVariants.{Refused}
use Rattle.script.specs.declared.sink.Stopped.{Stopped}
use Rattle.script.specs.declared.sink.Stopped.TheVariants.{Memory, Sink}
use Rattle.script.proofs.Only.{line_one}
use Rattle.script.proofs.Phases.{lines_called}

-- where another piece is left
another_left : (left : List (List ℕ)) → none_left left ≡ false → (next : List ℕ) × (more : List (List ℕ)) × (left ≡ next ∷ more)
another_left [] e = absurd (both_ways true e refl)
another_left (next ∷ more) e = (next, more, refl)

pub nothing_left : (left : List (List ℕ)) → none_left left ≡ true → left ≡ []
nothing_left [] e = refl
nothing_left (next ∷ more) e = absurd cc

-- what the replies to some lines say, one behind the other
said_joined : (rss : List (List LineReply)) → all_said (concatenation rss) ≡ concatenation (map all_said rss)
said_joined [] = refl
said_joined (rs ∷ rss) =
    map-append _ rs (concatenation rss) ∙ ap (λ (more : List Said). all_said rs ++ more) (said_joined rss)

module _ {Got : Type 0} (with_one : Got → LineReply → Got) where
  -- more replies
  pub more_got : (old now new : Got) (replies more : List LineReply) → Gets with_one old now replies → Gets with_one now new more
      → Gets with_one old new (replies ++ more)
  more_got old now new replies more got e =
      e ∙ ap (λ (g : Got). fold with_one g more) got ∙ sym (fold-append with_one old replies more)

  -- what allows the same answers
  module _ (old new : Got) (By Like : List (List Said) → Type 0) (back : (answers : List (List Said)) → Like answers → By answers) where
    pub answers_like : ((answers : List (List Said)) → By answers → Like answers) → AnswersLines with_one old new By → AnswersLines with_one old new Like
    answers_like onward x =
        record {
          replies = x.replies;
          got = x.got;
          answered = onward _ x.answered;
          only = λ answers t. x.only answers (back answers t);
        }

    pub begins_like : BeginsLines with_one old new By → BeginsLines with_one old new Like
    begins_like x = record { replies = x.replies; got = x.got; begins = λ answers t. x.begins answers (back answers t) }

  -- no reply is a beginning of any
  pub nothing_begins : (old new : Got) (By : List (List Said) → Type 0) → new ≡ old → BeginsLines with_one old new By
  nothing_begins old new By e = record { replies = []; got = e; begins = λ answers t. (concatenation answers, refl) }

  -- all replies are a beginning
  begins_all : (old new : Got) (By : List (List Said) → Type 0) → AnswersLines with_one old new By → BeginsLines with_one old new By
  begins_all old new By x =
      record {
        replies = concatenation x.replies;
        got = x.got;
        begins = λ answers t. ([], ap concatenation (x.only answers t) ∙ sym (said_joined x.replies) ∙ sym (append-nil (all_said (concatenation x.replies))));
      }

  -- a line, and those behind it
  module _ (s : State) (line next : List ℕ) (more : List (List ℕ)) (old now : Got) where
    module _ (u : State) (x : GivesAll with_one old now (LineAnswered line) s u) (new : Got) where
      line_first : (rs : List Said) (rest : List (List Said)) → LinesAnswered s (line ∷ next ∷ more) (rs ∷ rest)
          → (rs ≡ all_said x.replies) × LinesAnswered u (next ∷ more) rest
      line_first rs rest t =
          let one = line_one line s (all_said x.replies) rs u t.0 x.answered t.1 in
          (one.0, subst (λ (v : State). LinesAnswered v (next ∷ more) rest) one.1 t.2)

      all_answered : AnswersLines with_one now new (LinesAnswered u (next ∷ more)) → AnswersLines with_one old new (LinesAnswered s (line ∷ next ∷ more))
      all_answered y =
          record {
            replies = x.replies ∷ y.replies;
            got = more_got old now new x.replies (concatenation y.replies) x.got y.got;
            answered = (u, x.answered, y.answered);
            only = go;
          } where
            go : (answers : List (List Said)) → LinesAnswered s (line ∷ next ∷ more) answers → answers ≡ map all_said (x.replies ∷ y.replies)
            go [] t = absurd t
            go (rs ∷ rest) t =
                let first = line_first rs rest t in
                ap (λ (rs : List Said). rs ∷ rest) first.0 ∙ ap (λ (rest : List (List Said)). all_said x.replies ∷ rest) (y.only rest first.1)

      more_begun : BeginsLines with_one now new (LinesAnswered u (next ∷ more)) → BeginsLines with_one old new (LinesAnswered s (line ∷ next ∷ more))
      more_begun y =
          record {
            replies = x.replies ++ y.replies;
            got = more_got old now new x.replies y.replies x.got y.got;
            begins = go;
          } where
            go : (answers : List (List Said)) → LinesAnswered s (line ∷ next ∷ more) answers
                → (rest : List Said) × (concatenation answers ≡ all_said (x.replies ++ y.replies) ++ rest)
            go [] t = absurd t
            go (rs ∷ others) t =
                let first = line_first rs others t in
                let b = y.begins others first.1 in (
                  b.0,
                  ap (λ (rs : List Said). rs ++ concatenation others) first.0 ∙ ap (λ (ys : List Said). all_said x.replies ++ ys) b.1
                      ∙ sym (append_assoc (all_said x.replies) (all_said y.replies) b.0)
                      ∙ ap (λ (ys : List Said). ys ++ b.0) (sym (map-append said_of x.replies y.replies)),
                )

    -- the line is not answered to its end
    line_begun : GivesSome with_one old now (LineAnswered line) s → BeginsLines with_one old now (LinesAnswered s (line ∷ next ∷ more))
    line_begun x = record { replies = x.replies; got = x.got; begins = go } where
      go : (answers : List (List Said)) → LinesAnswered s (line ∷ next ∷ more) answers
          → (rest : List Said) × (concatenation answers ≡ all_said x.replies ++ rest)
      go [] t = absurd t
      go (rs ∷ others) t =
          let b = x.begins rs t.0 t.1 in
          (b.0 ++ concatenation others, ap (λ (rs : List Said). rs ++ concatenation others) b.1 ∙ append_assoc (all_said x.replies) b.0 (concatenation others))

  -- what stands behind the last line
  rest_answered : (old new : Got) (s : State) (rest : List ℕ) → (rest ≡ [] → new ≡ old) → ((rest ≡ [] → ⊥) → new ≡ with_one old (Refused BadLine))
      → AnswersLines with_one old new (LinesAnswered s (rest ∷ []))
  rest_answered old new s [] nothing cut = record { replies = []; got = nothing refl; answered = refl; only = λ answers t. t }
  rest_answered old new s (b ∷ bs) nothing cut =
      record { replies = (Refused BadLine ∷ []) ∷ []; got = cut (λ e. absurd cc); answered = refl; only = λ answers t. t }

  module _ (old now : Got) (s : State) (rest : List ℕ) (nothing : rest ≡ [] → now ≡ old) (cut : (rest ≡ [] → ⊥) → now ≡ with_one old (Refused BadLine))
      (new : Got) where
    -- and nothing is left then
    all_answered_by_rest : AnswersLines with_one now new (LinesAnswered s []) → AnswersLines with_one old new (LinesAnswered s (rest ∷ []))
    all_answered_by_rest y = subst (λ (g : Got). AnswersLines with_one old g (LinesAnswered s (rest ∷ []))) (sym (none y.replies y.got y.answered)) (rest_answered old now s rest nothing cut) where
      none : (replies : List (List LineReply)) → Gets with_one now new (concatenation replies) → map all_said replies ≡ [] → new ≡ now
      none [] e is = e
      none (rs ∷ more) e is = absurd cc

    begun_by_rest : BeginsLines with_one now new (LinesAnswered s []) → BeginsLines with_one old new (LinesAnswered s (rest ∷ []))
    begun_by_rest y =
        let b = y.begins [] refl in
        subst (λ (g : Got). BeginsLines with_one old g (LinesAnswered s (rest ∷ []))) (sym (none y.replies b.0 y.got b.1))
        (begins_all old now _ (rest_answered old now s rest nothing cut)) where
          none : (replies : List LineReply) (rest : List Said) → Gets with_one now new replies → [] ≡ all_said replies ++ rest → new ≡ now
          none [] rest e is = e
          none (reply ∷ more) rest e is = absurd cc

  -- some lines have been answered: what is then answered of those left, or begun, is so of all
  pub record Reached (old now : Got) (s : State) (lines : List (List ℕ)) (u : State) (left : List (List ℕ)) : Type 0 where
    pub answered : (new : Got) → AnswersLines with_one now new (LinesAnswered u left) → AnswersLines with_one old new (LinesAnswered s lines)
    pub begun : (new : Got) → BeginsLines with_one now new (LinesAnswered u left) → BeginsLines with_one old new (LinesAnswered s lines)

  -- before the first line
  pub none_reached : (old : Got) (s : State) (lines : List (List ℕ)) → Reached old old s lines s lines
  none_reached old s lines = record { answered = λ new x. x; begun = λ new x. x }

  module _ (old now : Got) (s : State) (lines : List (List ℕ)) (u : State) (left : List (List ℕ)) (reached : Reached old now s lines u left) where
    -- behind the last line
    pub all_reached : left ≡ [] → AnswersLines with_one old now (LinesAnswered s lines)
    all_reached e =
        reached.answered now
        (subst (λ (l : List (List ℕ)). AnswersLines with_one now now (LinesAnswered u l)) (sym e) (record { replies = []; got = refl; answered = refl; only = λ answers t. t }))

    -- nothing more is got
    pub so_far : (new : Got) → new ≡ now → BeginsLines with_one old new (LinesAnswered s lines)
    so_far new e = reached.begun new (nothing_begins now new (LinesAnswered u left) e)

    module _ (line : List ℕ) (rest : List (List ℕ)) (is : left ≡ line ∷ rest) where
      -- the line and another one, for which the lines left stand
      at_line : (another : none_left rest ≡ false) → (next : List ℕ) × (more : List (List ℕ)) × (rest ≡ next ∷ more)
          × Reached old now s lines u (line ∷ next ∷ more)
      at_line another =
          let near = another_left rest another in
          (near.0, near.1, near.2, subst (λ (l : List (List ℕ)). Reached old now s lines u l) (is ∙ ap (λ (l : List (List ℕ)). line ∷ l) near.2) reached)

      -- a line more is answered
      pub line_reached : (another : none_left rest ≡ false) (new : Got) (v : State) → GivesAll with_one now new (LineAnswered line) u v
          → Reached old new s lines v rest
      line_reached another new v x =
          let here = at_line another in
          rw here.2 (record {
            answered = λ last y. here.3.answered last (all_answered u line here.0 here.1 now new v x last y);
            begun = λ last y. here.3.begun last (more_begun u line here.0 here.1 now new v x last y);
          })

      -- a line is begun
      pub begun_reached : (another : none_left rest ≡ false) (new : Got) → GivesSome with_one now new (LineAnswered line) u
          → BeginsLines with_one old new (LinesAnswered s lines)
      begun_reached another new x =
          let here = at_line another in
          here.3.begun new (line_begun u line here.0 here.1 now new x)

      -- the line stops in the middle, for want of memory or by the sink
      pub stopped_begun : {E : Type 0} (another : none_left rest ≡ false) (new : Got) (stopped : Stopped E) → IfMemory stopped (new ≡ now)
          → IfSink stopped (GivesSome with_one now new (LineAnswered line) u) → BeginsLines with_one old new (LinesAnswered s lines)
      stopped_begun another new (Memory e) same some = so_far new same
      stopped_begun another new (Sink e) same some = begun_reached another new some

      -- the line ends the writing of plans
      module _ (another : none_left rest ≡ false) (ends : ends_plans (command_of line) u.drafts ≡ true) where
        from_called : (answers : List (List Said)) → LinesAnswered (once_called u) (line ∷ rest) answers → LinesAnswered u left answers
        from_called answers t =
            let near = another_left rest another in
            rw (is, near.2) (lines_called true u.called u line near.0 near.1 ends answers (rw near.2 at t))

        to_called : (answers : List (List Said)) → LinesAnswered u left answers → LinesAnswered (once_called u) (line ∷ rest) answers
        to_called answers t =
            let near = another_left rest another in
            rw near.2 (lines_called u.called true u line near.0 near.1 ends answers (rw (is, near.2) at t))

        module _ (same : Got) (v : State) (got : same ≡ now) (kept : v ≡ u) (new : Got) where
          -- it and those behind it are answered by calls
          pub called_answered : AnswersLines with_one same new (LinesAnswered (once_called v) (line ∷ rest))
              → AnswersLines with_one old new (LinesAnswered s lines)
          called_answered x = reached.answered new (answers_like now new _ _ to_called from_called (rw (got, kept) at x))

          -- they are begun
          pub called_begun : BeginsLines with_one same new (LinesAnswered (once_called v) (line ∷ rest))
              → BeginsLines with_one old new (LinesAnswered s lines)
          called_begun x = reached.begun new (begins_like now new _ _ to_called (rw (got, kept) at x))

      -- what stands behind the last line is answered
      pub rest_reached : rest ≡ [] → (new : Got) → (line ≡ [] → new ≡ now) → ((line ≡ [] → ⊥) → new ≡ with_one now (Refused BadLine))
          → Reached old new s lines u rest
      rest_reached none new nothing cut =
          let here : Reached old now s lines u (line ∷ []) =
          subst (λ (l : List (List ℕ)). Reached old now s lines u l) (is ∙ ap (λ (l : List (List ℕ)). line ∷ l) none) reached in
          rw none (record {
            answered = λ last y. here.answered last (all_answered_by_rest now new u line nothing cut last y);
            begun = λ last y. here.begun last (begun_by_rest now new u line nothing cut last y);
          })

-- a text of at most so many bytes is answered line by line
module _ {Got : Type 0} (with_one : Got → LineReply → Got) (old new : Got) (text : List ℕ) where
  abbrev ByLength : Bool → List (List Said) → Type 0
  ByLength short answers = MatchBool short (LinesAnswered first_state (pieces 10 text) answers) (answers ≡ (refused (24, []) ∷ []) ∷ [])

  -- a text that is too long
  module _ (long : 16384 < length text) where
    too_long : leb (length text) 16384 ≡ false
    too_long = grind (arith, nat_tests)

    pub refused_alone : new ≡ with_one old (Refused BadLine) → AnswersText with_one old new text
    refused_alone takes =
        subst (λ (b : Bool). AnswersLines with_one old new (ByLength b)) (sym too_long)
        (record { replies = (Refused BadLine ∷ []) ∷ []; got = takes; answered = refl; only = λ answers t. t })
