-- What the periodic kind means.
use Rattle.std.specs.Prelude.{List}
use Rattle.std.proofs.Common.{ap}
use Rattle.policy.specs.Course.{Meaning}
use Rattle.policy.proofs.Stepping.{ahead_onward}
use Rattle.periodic.specs.Phases.{periodic_answer, periodic_course, periodic_next, same_phases}
use Rattle.periodic.specs.Sames.{phases_from_same}
use Rattle.periodic.specs.declared.phase.Phase.{Phase}

-- its positions are the phases of its rows
abbrev pub periodic_meaning : Meaning (List Phase)
periodic_meaning =
    record {
      course = periodic_course;
      next = periodic_next;
      alike = same_phases;
      onward = ahead_onward periodic_next periodic_answer;
      agree = λ p q h n.
          ap (λ (ps : List Phase). periodic_course ps n) (phases_from_same p q h);
    }
