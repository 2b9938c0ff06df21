-- A policy of any kind, by its course.
use Rattle.std.specs.Prelude.{◌≡◌, ℕ}
use Rattle.policy.specs.Course.{Course}
use Rattle.policy.specs.declared.policy.Policy.{Ghosts}

-- the course of a policy, at the position where it stands
abbrev pub course_of : {P : Type 0} (kind : Ghosts P) → P → Course
course_of kind p = kind.meaning.course (kind.position p)

-- both courses give the same answer in every slot
abbrev pub SameCourse : Course → Course → Type 0
SameCourse c d = (n : ℕ) → c n ≡ d n
