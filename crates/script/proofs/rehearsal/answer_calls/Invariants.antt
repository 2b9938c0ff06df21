use Rattle.std.proofs.Common.{◌∷◌, length}
use Rattle.board.specs.History.{History}
use Rattle.lines.specs.Left.{left}
use Rattle.script.specs.Held.{drafts_state, state_of}
use Rattle.script.specs.States.{Tallied, once_called}
use Rattle.script.proofs.TextRuns.{Reached}
use Rattle.script.proofs.rehearsal.answer_calls.Given as goal

-- the lines so far are answered, and the sink has got their replies
abbrev pub invariant-loop-line : goal.invariant-loop-line
invariant-loop-line g l =
    (later : History) × Tallied (state_of l.calls later)
    × Reached g.S.Sink.with_one (g.S.Sink.got l.fn.sink) (g.S.Sink.got l.sink) (once_called (drafts_state l.drafts)) (l.first ∷ left l.fn.lines)
    (state_of l.calls later) (left l.lines)

abbrev pub decreases-loop-line : goal.decreases-loop-line
decreases-loop-line g l = length (left l.lines)
