-- What a sink has got, once a line or a text is answered, and where it failed in between.
use Rattle.std.specs.Prelude.{◌≡◌, ℕ, List, [], ◌∷◌, ◌++◌, map, flat_map, fold}
use Rattle.script.specs.Replies.{Said, said_of}
use Rattle.script.specs.States.{State, Tallied}
use Rattle.script.specs.Texts.{Rehearses}
use Rattle.script.specs.declared.reply.LineReply.{LineReply}

-- what replies say
abbrev pub all_said : List LineReply → List Said
all_said = map said_of

-- lists one behind the other
abbrev pub concatenation : {X : Type 0} → List (List X) → List X
concatenation = flat_map (λ xs. xs)

module _ (By : State → List Said → State → Type 0) (s : State) where
  -- it is the one reply that By has, and leads to this state
  pub record GivesOne (reply : LineReply) (u : State) : Type 0 where
    pub tallied : Tallied u
    pub answered : By s (said_of reply ∷ []) u

-- what a sink that keeps all replies has got, with one more
abbrev pub appended : List LineReply → LineReply → List LineReply
appended = λ got reply. got ++ reply ∷ []

module _ {Got : Type 0} (with_one : Got → LineReply → Got) (old new : Got) where
  -- a sink has got these replies
  abbrev pub Gets : List LineReply → Type 0
  Gets replies = new ≡ fold with_one old replies

  module _ (By : State → List Said → State → Type 0) (s : State) where
    -- the sink has got the replies that By has, and they lead to this state
    pub record GivesAll (u : State) : Type 0 where
      pub replies : List LineReply
      pub got : Gets replies
      pub tallied : Tallied u
      pub answered : By s (all_said replies) u
      -- no others would do
      pub only : (rs : List Said) (v : State) → By s rs v → rs ≡ all_said replies

    -- the sink has got a beginning of the replies that By has
    pub record GivesSome : Type 0 where
      pub replies : List LineReply
      pub got : Gets replies
      pub begins : (rs : List Said) (v : State) → By s rs v
          → (rest : List Said) × (rs ≡ all_said replies ++ rest)

  module _ (By : List (List Said) → Type 0) where
    -- the sink has got the replies that By has, line by line
    pub record AnswersLines : Type 0 where
      pub replies : List (List LineReply)
      pub got : Gets (concatenation replies)
      pub answered : By (map all_said replies)
      -- no others would do
      pub only : (answers : List (List Said)) → By answers → answers ≡ map all_said replies

    -- the sink has got a beginning of them
    pub record BeginsLines : Type 0 where
      pub replies : List LineReply
      pub got : Gets replies
      pub begins : (answers : List (List Said)) → By answers
          → (rest : List Said) × (concatenation answers ≡ all_said replies ++ rest)

  -- the sink has got the replies to a text
  abbrev pub AnswersText : List ℕ → Type 0
  AnswersText text = AnswersLines (Rehearses text)

  -- the sink has got a beginning of the replies to a text
  abbrev pub BeginsText : List ℕ → Type 0
  BeginsText text = BeginsLines (Rehearses text)
