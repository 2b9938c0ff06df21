use Rattle.std.proofs.Common.{◌≡◌, false, length}
use Rattle.lines.specs.Left.{left, none_left}
use Rattle.lines.specs.Pieces.{pieces}
use Rattle.script.specs.Held.{drafts_state}
use Rattle.script.specs.States.{first_state}
use Rattle.script.proofs.Shortages.{Led}
use Rattle.script.proofs.TextRuns.{Reached}
use Rattle.script.proofs.rehearsal.answer_plans.Given as goal

-- the lines so far are answered, and the sink has got their replies; while a line is left, those answered lead to these plans
abbrev pub invariant-loop-line : goal.invariant-loop-line
invariant-loop-line g l =
    Reached g.S.Sink.with_one (g.S.Sink.got l.fn.sink) (g.S.Sink.got l.sink) first_state (pieces 10 l.text) (drafts_state l.drafts) (left l.lines)
    × (none_left (left l.lines) ≡ false → Led g.S.Sink.with_one (g.S.Sink.got l.fn.sink) (g.S.Sink.got l.sink) (pieces 10 l.text) l.drafts (left l.lines))

abbrev pub decreases-loop-line : goal.decreases-loop-line
decreases-loop-line g l = length (left l.lines)
