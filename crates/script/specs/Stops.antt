-- Which of the two reasons a script is not answered to its end.
use Rattle.std.specs.Prelude.{⊤}
use Rattle.script.specs.declared.sink.Stopped.{Stopped}
use Rattle.script.specs.declared.sink.Stopped.TheVariants.{Memory, Sink}

-- P, if memory has run out
abbrev pub IfMemory : {E : Type 0} → Stopped E → Type 0 → Type 0
IfMemory (Memory e) P = P
IfMemory (Sink e) P = ⊤

-- P, if the sink failed
abbrev pub IfSink : {E : Type 0} → Stopped E → Type 0 → Type 0
IfSink (Memory e) P = ⊤
IfSink (Sink e) P = P
