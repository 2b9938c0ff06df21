use Rattle.std.proofs.Common.{Ok, Err}
use Rattle.showtext.proofs.Answered.{answered, refused_so}
use Rattle.showtext.proofs.storing.stored.Goals as goal

pub returns-in-Ok-clause-spelled : goal.returns-in-Ok-clause-spelled
returns-in-Ok-clause-spelled c rows n w small is = answered c.args.script.now (Ok c.in-Ok.it) c.in-Ok.ensures.stores rows n w small is

pub returns-in-Err-Refused-clause-spelled : goal.returns-in-Err-Refused-clause-spelled
returns-in-Err-Refused-clause-spelled c rows n w small is =
    let at = c.in-Err-Refused in
    answered c.args.script.now (Err at.refusal) (refused_so c.args.script.now at.field-0 at.refusal at.ensures.refused at.field-0-is)
    rows n w small is
