use Rattle.board.specs.History.{History}
use Rattle.script.specs.Held.{state_of}
use Rattle.script.specs.States.{Tallied}
use Rattle.script.proofs.TickRuns.{TicksPassed}
use Rattle.script.proofs.calls.Calls.ticks.Given as goal

-- the ticks so far are granted, and the sink has got their replies
abbrev pub invariant-loop-tick : goal.invariant-loop-tick
invariant-loop-tick g l = (h : History) → Tallied (state_of l.fn.self h)
    → (later : History) × TicksPassed g.S.Sink.with_one (g.S.Sink.got l.fn.sink) (g.S.Sink.got l.sink) (state_of l.fn.self h) l.tick (state_of l.self later)
