-- One reply to a line, which the sink has got.
use Rattle.std.proofs.Common.{◌≡◌, ℕ, Bool, true, false, List, [], ◌∷◌, sym, subst, MatchBool}
use Rattle.lines.specs.declared.command.CallLine.{CallLine}
use Rattle.lines.specs.declared.command.Command.{Command}
use Rattle.lines.specs.declared.command.Command.TheVariants.{Call}
use Rattle.script.specs.Calls.{CallLineAnswered, Met}
use Rattle.script.specs.Lines.{CommandAnswered, LineAnswered}
use Rattle.script.specs.Replies.{Said, said_of}
use Rattle.script.specs.Sinks.{GivesAll, GivesOne}
use Rattle.script.specs.States.{State, Tallied}
use Rattle.script.specs.declared.reply.LineReply.{LineReply}
use Rattle.script.proofs.Only.{Same, command_one, line_one}

on_true : (b : Bool) (A B : Type 0) → b ≡ true → A → MatchBool b A B
on_true b A B e x = subst (λ (b : Bool). MatchBool b A B) (sym e) x

on_false : (b : Bool) (A B : Type 0) → b ≡ false → B → MatchBool b A B
on_false b A B e x = subst (λ (b : Bool). MatchBool b A B) (sym e) x

module _ {Got : Type 0} (with_one : Got → LineReply → Got) (old new : Got) (s u : State) (reply : LineReply) (takes : new ≡ with_one old reply) where
  gives_one : (By : State → List Said → State → Type 0)
      → ((rs all : List Said) (u v : State) → By s rs u → By s all v → Same rs all u v)
      → GivesOne By s reply u → GivesAll with_one old new By s u
  gives_one By one x =
      record {
        replies = reply ∷ [];
        got = takes;
        tallied = x.tallied;
        answered = x.answered;
        only = λ rs v y. (one (said_of reply ∷ []) rs u v x.answered y).0;
      }

  -- a command that is answered by one reply
  pub command_gives : (command : Command) → GivesOne (CommandAnswered command) s reply u → GivesAll with_one old new (CommandAnswered command) s u
  command_gives command = gives_one (CommandAnswered command) (command_one command s)

  -- a line that is answered by one reply
  pub line_gives : (line : List ℕ) → GivesOne (LineAnswered line) s reply u → GivesAll with_one old new (LineAnswered line) s u
  line_gives line = gives_one (LineAnswered line) (line_one line s)

  -- a call, while no plan is being written
  pub call_gives : (line : CallLine) → s.drafts.writing ≡ false → GivesOne (CallLineAnswered line) s reply u
      → GivesAll with_one old new (CommandAnswered (Call line)) s u
  call_gives line idle x = command_gives (Call line) (record { tallied = x.tallied; answered = on_false s.drafts.writing _ _ idle x.answered })

  -- a call, while a plan is being written
  pub misplaced_gives : (line : CallLine) → Tallied u → s.drafts.writing ≡ true → Met (24, []) s (said_of reply ∷ []) u
      → GivesAll with_one old new (CommandAnswered (Call line)) s u
  misplaced_gives line t busy met = command_gives (Call line) (record { tallied = t; answered = on_true s.drafts.writing _ _ busy met })
