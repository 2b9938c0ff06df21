-- What a line of output says.
use Rattle.std.specs.Prelude.{Bool, true, false, Some, None, Ok, Err, Option}
use Rattle.readings.specs.Refusals.{Content, content}
use Rattle.board.specs.Log.{Reply}
use Rattle.board.specs.declared.call.Grant.{Grant}
use Rattle.script.specs.declared.reply.LineReply.{LineReply}
use Rattle.script.specs.declared.reply.LineReply.TheVariants.{Done, Granted, Refused}

pub data Said : Type 0 where
  -- what the line of a plan asks for is done
  done : Said
  -- a call of the board is granted
  granted : Grant → Said
  -- a line is refused, with this number and these values
  refused : Content → Said

abbrev pub said_of : LineReply → Said
said_of Done = done
said_of (Granted grant) = granted grant
said_of (Refused refusal) = refused (content refusal)

-- what is said of a line of a plan, by its refusal
abbrev pub plan_said : Option Content → Said
plan_said None = done
plan_said (Some refusal) = refused refusal

-- what is said of a call, by the board's reply
abbrev pub board_said : Reply → Said
board_said (Ok grant) = granted grant
board_said (Err refusal) = refused refusal

abbrev pub is_refused : Said → Bool
is_refused (refused refusal) = true
is_refused _ = false
