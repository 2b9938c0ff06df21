use Rattle.std.proofs.Common.{◌<◌, Ok}
use Rattle.std.specs.Prelude.{IfNone}
use Rattle.readings.specs.Lists.{rows_of}
use Rattle.strip.specs.Players.{position_of}
use Rattle.strip.specs.Positions.{strip_course}
use Rattle.examples.specs.Strips.{SamplesGive, samples_before}
use Rattle.examples.proofs.Made.{made_x, strip_x}
use Rattle.examples.proofs.StripRunning.{found_x, not_refused_x, started_x}
use Rattle.examples.proofs.strip_example.samples_of_x.Goals as goal

pub returns-in_err-strip : goal.returns-in_err-strip
returns-in_err-strip c =
    absurd (not_refused_x (rows_of c.in_ok-x.x) c.in_err-strip.field-0.0 c.in_ok-x.ensures
    c.in_err-strip.ensures.err)

pub unwrap-requires : goal.unwrap-requires
unwrap-requires c =
    found_x c.first_samples.result c.args.k c.requires
    (started_x (rows_of c.in_ok-x.x) _ (position_of c.new.result) c.in_ok-x.ensures c.in_ok-strip.ensures.ok c.new.ensures.start
    (λ p. IfNone c.first_samples.result (samples_before (strip_course p) c.args.k 89 < 5)) c.first_samples.ensures.none)

pub returns : goal.returns
returns c = (
  strip_x,
  (
    made_x,
    started_x (rows_of c.in_ok-x.x) _ (position_of c.new.result) c.in_ok-x.ensures c.in_ok-strip.ensures.ok c.new.ensures.start
        (λ p. SamplesGive (strip_course p) c.args.k (Ok c.unwrap.result)) (rw c.unwrap.ensures at c.first_samples.ensures.some),
  ),
)
