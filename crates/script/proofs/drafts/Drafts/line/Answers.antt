use Rattle.script.proofs.Gives.{line_gives}
use Rattle.script.proofs.drafts.Drafts.line.Goals as goal

pub returns-clause-ok : goal.returns-clause-ok
returns-clause-ok g c =
    line_gives g.S.Sink.with_one _ _ _ _ c.in-Some.reply c.in_ok-give.ensures.ok c.args.line.now (rw c.in-Some.is at c.in_ok-reply.ensures.answered)
