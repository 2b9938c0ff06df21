-- What the strip kind means.
use Rattle.std.proofs.Common.{ap}
use Rattle.policy.specs.Course.{Meaning}
use Rattle.policy.proofs.Stepping.{ahead_onward}
use Rattle.strip.specs.Positions.{Position, strip_answer, strip_course, strip_next}
use Rattle.strip.specs.Sames.{position_from_same, same_position}

-- its positions are those of the strip, with the work of its rows
abbrev pub strip_meaning : Meaning Position
strip_meaning =
    record {
      course = strip_course;
      next = strip_next;
      alike = same_position;
      onward = ahead_onward strip_next strip_answer;
      agree = λ p q h n. ap (λ (x : Position). strip_course x n) (position_from_same p q h);
    }
