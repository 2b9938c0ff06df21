-- Where memory runs out while a text is answered.
use Rattle.std.specs.Prelude.{◌≡◌, ℕ, false, List, [], ◌∷◌, ◌++◌, map}
use Rattle.lines.specs.Left.{none_left}
use Rattle.lines.specs.Pieces.{pieces}
use Rattle.script.specs.Held.{LineFindsNoRoom, drafts_state}
use Rattle.script.specs.Lines.{LineAnswered}
use Rattle.script.specs.Replies.{Said}
use Rattle.script.specs.Sinks.{Gets, all_said, concatenation}
use Rattle.script.specs.States.{State, first_state}
use Rattle.script.specs.declared.drafts.Drafts.{Drafts}
use Rattle.script.specs.declared.reply.LineReply.{LineReply}

-- lines are answered, each with a list of replies, and lead from one state to another
abbrev pub LinesLead : State → List (List ℕ) → List (List Said) → State → Type 0
LinesLead s [] answers u = (answers ≡ []) × (u ≡ s)
LinesLead s (line ∷ lines) [] u = ⊥
LinesLead s (line ∷ lines) (rs ∷ answers) u =
    (v : State) × LineAnswered line s rs v × LinesLead v lines answers u

module _ {Got : Type 0} (with_one : Got → LineReply → Got) (old new : Got) (text : List ℕ) where
  -- a line of the text adds a reading, and is not answered for want of memory: the lines before it
  -- are answered, and the sink has got just the replies to those
  pub record StopsAtLine : Type 0 where
    pub before : List (List ℕ)
    pub line : List ℕ
    pub after : List (List ℕ)
    pub lines : pieces 10 text ≡ before ++ line ∷ after
    -- byte 10 ends the line
    pub ended : none_left after ≡ false
    pub replies : List (List LineReply)
    pub got : Gets with_one old new (concatenation replies)
    -- the plans once the lines before it are answered, in drafts whose readings fill what they have;
    -- that this is so of the drafts at hand is said where they can be named, of `Drafts::line`
    pub drafts : Drafts
    pub answered : LinesLead first_state before (map all_said replies) (drafts_state drafts)
    pub no_room : LineFindsNoRoom line drafts
