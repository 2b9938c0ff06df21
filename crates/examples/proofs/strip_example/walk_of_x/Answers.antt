use Rattle.readings.specs.Lists.{rows_of}
use Rattle.strip.specs.Meanings.{strip_meaning}
use Rattle.strip.specs.Players.{position_of}
use Rattle.examples.specs.Endings.{WalkGives}
use Rattle.examples.specs.Lists.{readings_x}
use Rattle.examples.proofs.Made.{made_x, strip_x}
use Rattle.examples.proofs.StripRunning.{not_refused_x, started_x}
use Rattle.examples.proofs.strip_example.walk_of_x.Goals as goal

pub returns-in_err-strip : goal.returns-in_err-strip
returns-in_err-strip c =
    absurd (not_refused_x (rows_of c.in_ok-x.x) c.in_err-strip.field-0.0 c.in_ok-x.ensures
    c.in_err-strip.ensures.err)

pub returns : goal.returns
returns c = (
  strip_x,
  (
    made_x,
    started_x (rows_of c.in_ok-x.x) _ (position_of c.new.result) c.in_ok-x.ensures c.in_ok-strip.ensures.ok c.new.ensures.start
        (λ p. WalkGives strip_meaning p readings_x c.walk_ending.result) (rw c.in_ok-x.ensures at c.walk_ending.ensures),
  ),
)
