-- How far the lines of a text are answered where memory runs out.
use Rattle.std.proofs.Common.{◌≡◌, ℕ, false, List, [], ◌∷◌, ◌++◌, map, sym, refl, ap, ◌∙◌, subst, append_assoc}
use Rattle.std.proofs.lemmas.List.{flat_map_more, map-append}
use Rattle.lines.specs.Left.{none_left}
use Rattle.lines.specs.Pieces.{pieces}
use Rattle.script.specs.Held.{LineFindsNoRoom, drafts_state}
use Rattle.script.specs.Lines.{LineAnswered}
use Rattle.script.specs.Replies.{Said}
use Rattle.script.specs.Shortage.{LinesLead, StopsAtLine}
use Rattle.script.specs.Sinks.{Gets, GivesAll, all_said, concatenation}
use Rattle.script.specs.States.{State, first_state}
use Rattle.script.specs.Stops.{IfMemory}
use Rattle.script.specs.declared.drafts.Drafts.{Drafts}
use Rattle.script.specs.declared.reply.LineReply.{LineReply}
use Rattle.script.specs.declared.sink.Stopped.{Stopped}
use Rattle.script.specs.declared.sink.Stopped.TheVariants.{Memory, Sink}
use Rattle.script.proofs.TextRuns.{more_got}

-- a line more
lead_more : (s u v : State) (lines : List (List ℕ)) (answers : List (List Said)) (line : List ℕ) (rs : List Said)
    → LinesLead s lines answers u → LineAnswered line u rs v → LinesLead s (lines ++ line ∷ []) (answers ++ rs ∷ []) v
lead_more s u v [] answers line rs x y = rw x.0 (v, subst (λ (w : State). LineAnswered line w rs v) x.1 y, (refl, refl))
lead_more s u v (first ∷ lines) [] line rs x y = absurd x
lead_more s u v (first ∷ lines) (qs ∷ answers) line rs x y = (x.0, x.1, lead_more x.0 u v lines answers line rs x.2 y)

-- what holds of both facts that come with want of memory
pub if_memory_both : {E : Type 0} (e f : Stopped E) (P Q R : Type 0) → e ≡ f → IfMemory f P → IfMemory f Q → (P → Q → R) → IfMemory e R
if_memory_both e (Memory x) P Q R is p q both = rw is (both p q)
if_memory_both e (Sink x) P Q R is p q both = rw is tt

module _ {Got : Type 0} (with_one : Got → LineReply → Got) where
  -- some lines have been answered, and others are left
  pub record Led (old now : Got) (lines : List (List ℕ)) (d : Drafts) (left : List (List ℕ)) : Type 0 where
    pub before : List (List ℕ)
    pub split : lines ≡ before ++ left
    pub replies : List (List LineReply)
    pub got : Gets with_one old now (concatenation replies)
    pub answered : LinesLead first_state before (map all_said replies) (drafts_state d)

  -- before the first line
  pub none_led : (old : Got) (lines : List (List ℕ)) (d : Drafts) → drafts_state d ≡ first_state → Led old old lines d lines
  none_led old lines d e = record { before = []; split = refl; replies = []; got = refl; answered = (refl, e) }

  module _ (old now : Got) (lines : List (List ℕ)) (d : Drafts) (left : List (List ℕ)) (led : Led old now lines d left) (line : List ℕ)
      (rest : List (List ℕ)) (is : left ≡ line ∷ rest) where
    -- a line more is answered
    pub led_more : (new : Got) (e : Drafts) → GivesAll with_one now new (LineAnswered line) (drafts_state d) (drafts_state e)
        → Led old new lines e rest
    led_more new e x =
        record {
          before = led.before ++ line ∷ [];
          split = led.split ∙ ap (λ (l : List (List ℕ)). led.before ++ l) is ∙ sym (append_assoc led.before (line ∷ []) rest);
          replies = led.replies ++ x.replies ∷ [];
          got = subst (λ (rs : List LineReply). Gets with_one old new rs) (flat_map_more (λ (rs : List LineReply). rs) [] led.replies x.replies)
              (more_got with_one old now new (concatenation led.replies) x.replies led.got x.got);
          answered = subst (λ (answers : List (List Said)). LinesLead first_state (led.before ++ line ∷ []) answers (drafts_state e))
              (sym (map-append all_said led.replies (x.replies ∷ [])))
              (lead_more first_state (drafts_state d) (drafts_state e) led.before (map all_said led.replies) line (all_said x.replies) led.answered x.answered);
        }

    -- the line finds no room
    pub stopped_at : (text : List ℕ) → lines ≡ pieces 10 text → none_left rest ≡ false → (new : Got) → new ≡ now → LineFindsNoRoom line d
        → StopsAtLine with_one old new text
    stopped_at text of another new same no_room =
        record {
          before = led.before;
          line = line;
          after = rest;
          lines = sym of ∙ led.split ∙ ap (λ (l : List (List ℕ)). led.before ++ l) is;
          ended = another;
          replies = led.replies;
          got = same ∙ led.got;
          drafts = d;
          answered = led.answered;
          no_room = no_room;
        }
