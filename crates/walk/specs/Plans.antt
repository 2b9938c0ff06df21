-- What an accepted plan holds, and what a walk answers.
use Rattle.std.specs.Prelude.{ℕ, List, Ok, Err, Result}
use Rattle.rows.specs.Held.{rows_of as held}
use Rattle.readings.specs.Refusals.{content}
use Rattle.readings.specs.declared.list.Readings.{Readings}
use Rattle.readings.specs.declared.refusal.Refusal.{Refusal}
use Rattle.policy.specs.Course.{Course}
use Rattle.policy.specs.Policies.{course_of}
use Rattle.policy.specs.declared.policy.Policy.{Ghosts}
use Rattle.walk.specs.Walks.{Outcome, granted, refused}
use Rattle.walk.specs.declared.plan.Accepted.{Accepted}

-- the list of an accepted plan
abbrev pub list_of : {P : Type 0} {kind : Ghosts P} → Accepted P kind → Readings
list_of a = a.list

-- its policy, at the position where it was accepted
abbrev pub policy_of : {P : Type 0} {kind : Ghosts P} → Accepted P kind → P
policy_of a = a.policy

-- the course of its policy from there
abbrev pub plan_course : {P : Type 0} {kind : Ghosts P} → Accepted P kind → Course
plan_course {P} {kind} a = course_of kind (policy_of a)

-- the mark of its repeat
abbrev pub repeat_mark : {P : Type 0} {kind : Ghosts P} → Accepted P kind → ℕ
repeat_mark a = a.mark

-- the slots from that mark to the repeat
abbrev pub repeat_length : {P : Type 0} {kind : Ghosts P} → Accepted P kind → ℕ
repeat_length a = a.length

-- the first finish of each of its rows
abbrev pub finishes_of : {P : Type 0} {kind : Ghosts P} → Accepted P kind → List ℕ
finishes_of a = held a.finishes

-- what a walk answered
abbrev pub outcome : {P : Type 0} {kind : Ghosts P} → Result (Accepted P kind) Refusal → Outcome
outcome (Ok a) = granted (repeat_mark a) (repeat_length a)
outcome (Err e) = refused (content e)
