-- One call, by what its code does to a board.
use Rattle.std.proofs.Common.{◌≡◌, ℕ, ◌≤◌, false, List, [], is_some, true, Some, None, Option, Ok, Err, sym, refl, ap, ◌∙◌, subst}
use Rattle.std.proofs.lemmas.Bool.{both_ways}
use Rattle.policy.specs.Policies.{course_of}
use Rattle.policy.specs.declared.policy.Policy.{Ghosts}
use Rattle.readings.specs.Lists.{rows_of as readings_of}
use Rattle.readings.specs.Refusals.{Content}
use Rattle.readings.specs.declared.list.Readings.{Readings}
use Rattle.readings.specs.declared.reading.Reading.{Reading}
use Rattle.books.specs.Crossings.{crossing_fault}
use Rattle.books.specs.Slots.{books_at}
use Rattle.walk.specs.Acceptance.{Accepts, new_rows}
use Rattle.walk.specs.Plans.{finishes_of, list_of, plan_course, policy_of, repeat_length, repeat_mark}
use Rattle.walk.specs.Walks.{Walks, granted, refused}
use Rattle.walk.specs.declared.plan.Accepted.{Accepted}
use Rattle.board.specs.Answers.{tick_grant}
use Rattle.board.specs.Held.{board_of, log_of_run, running_of}
use Rattle.board.specs.Lasting.{LastingRun}
use Rattle.board.specs.Log.{Crossing, resting, running, started, ticked, to_come}
use Rattle.board.specs.Parts.{FirstTested}
use Rattle.board.specs.Promise.{KeepsPromise}
use Rattle.board.specs.Requests as call
use Rattle.board.specs.Waits.{crossing_to}
use Rattle.board.specs.declared.board.Board.{Board}
use Rattle.board.specs.declared.call.Grant.TheVariants as grants
use Rattle.board.specs.declared.call.Started.{Started}
use Rattle.board.specs.declared.call.Ticked.{Ticked}
use Rattle.board.specs.declared.run.Run.{Run}
use Rattle.board.proofs.Calls.{LogKept, comes_well, keeps, none_kept, start_kept, start_refused, stop_kept, switch_kept, refused_kept, switch_refused, tick_kept}

module _ {P : Type 0} {kind : Ghosts P} where
  abbrev board : Option (Run P kind) → Board P kind
  board o = record { run = o }

  pub stops : (o : Option (Run P kind)) → (o ≡ None → ⊥) → KeepsPromise (board o) call.stop (Ok grants.Stopped) (board None)
  stops None e = absurd (e refl)
  stops (Some r) e = keeps _ _ _ _ (running (running_of r)) resting refl refl (stop_kept kind.meaning (running_of r) r.lasting)

  -- a start while the board runs
  pub start_is_late : (o : Option (Run P kind)) (list : List Reading) (p : kind.Position) → is_some o ≡ true
      → KeepsPromise (board o) (call.start list p) (Err (15, [])) (board o)
  start_is_late None list p e = absurd (both_ways false refl e)
  start_is_late (Some r) list p e =
      keeps _ _ _ _ (running (running_of r)) (running (running_of r)) refl refl
      (refused_kept kind.meaning (running (running_of r)) (call.start list p) (15, []) r.lasting refl (λ h. tt))

  pub ticks : (o : Option (Run P kind)) (r s : Run P kind) (t : Ticked) → o ≡ Some r → t ≡ tick_grant (running_of r) → running_of s ≡ ticked (running_of r)
      → KeepsPromise (board o) call.tick (Ok (grants.Ticked t)) (board (Some s))
  ticks o r s t is e f =
      subst (λ (x : Ticked). KeepsPromise (board o) call.tick (Ok (grants.Ticked x)) (board (Some s))) (sym e)
      (keeps _ _ _ _ (running (running_of r)) (running (ticked (running_of r))) (ap log_of_run is) (ap running f) (tick_kept kind.meaning (running_of r) r.lasting))

  -- what a walk that was granted says
  pub record Granted (list : Readings) (p : P) (plan : Accepted P kind) : Type 0 where
    pub walks : Walks kind.meaning (kind.position p) (new_rows list) (granted (repeat_mark plan) (repeat_length plan))
    pub list_is : list_of plan ≡ list
    pub policy_is : policy_of plan ≡ p
    pub accepts : Accepts (course_of kind p) (new_rows list) (finishes_of plan)

  pub starts : (o : Option (Run P kind)) (list : Readings) (p : P) (plan : Accepted P kind) (s : Run P kind) (x : Started) → o ≡ None → Granted list p plan
      → x ≡ record { mark = repeat_mark plan; length = repeat_length plan } → running_of s ≡ started (readings_of (list_of plan)) (plan_course plan)
      → KeepsPromise (board o) (call.start (readings_of list) (kind.position p)) (Ok (grants.Started x)) (board (Some s))
  starts o list p plan s x none w e f =
      let holds = f ∙ ap (λ (l : Readings). started (readings_of l) (plan_course plan)) w.list_is ∙ ap (λ (q : P). started (readings_of list) (course_of kind q)) w.policy_is in
      subst (λ (y : Started). KeepsPromise (board o) (call.start (readings_of list) (kind.position p)) (Ok (grants.Started y)) (board (Some s))) (sym e)
      (keeps _ _ _ _ resting (running (started (readings_of list) (course_of kind p))) (ap log_of_run none) (ap running holds)
      (start_kept kind.meaning (readings_of list) (kind.position p) (finishes_of plan) (repeat_mark plan) (repeat_length plan) list.law w.walks w.accepts))

  pub start_is_refused : (o : Option (Run P kind)) (list : Readings) (p : P) (e : Content) → o ≡ None → Walks kind.meaning (kind.position p) (new_rows list) (refused e)
      → KeepsPromise (board o) (call.start (readings_of list) (kind.position p)) (Err e) (board o)
  start_is_refused o list p e none walks =
      keeps _ _ _ _ resting resting (ap log_of_run none) (ap log_of_run none) (start_refused kind.meaning (readings_of list) (kind.position p) e walks)

  module _ (r : Run P kind) (list : Readings) (p : P) (latency : ℕ) (free : (running_of r).waiting ≡ None) (small : latency ≤ 4095) where
    pub switch_is_refused : (e : Content) → Walks kind.meaning (kind.position p) (new_rows list) (refused e)
        → KeepsPromise (board_of r) (call.switch (readings_of list) (kind.position p) latency) (Err e) (board_of r)
    switch_is_refused e walks =
        keeps _ _ _ _ (running (running_of r)) (running (running_of r)) refl refl
        (switch_refused kind.meaning (running_of r) r.lasting (readings_of list) (kind.position p) latency e free small walks)

    module _ (plan : Accepted P kind) (w : Granted list p plan) where
      -- the window, seen from the list of the call
      tested : (o : Option ℕ) → FirstTested (running_of r).course (running_of r).rows (readings_of (list_of plan)) (finishes_of plan) latency o
          → FirstTested (running_of r).course (running_of r).rows (readings_of list) (finishes_of plan) latency o
      tested o t = subst (λ (l : Readings). FirstTested (running_of r).course (running_of r).rows (readings_of l) (finishes_of plan) latency o) w.list_is t

      pub none_switches : FirstTested (running_of r).course (running_of r).rows (readings_of (list_of plan)) (finishes_of plan) latency None
          → KeepsPromise (board_of r) (call.switch (readings_of list) (kind.position p) latency) (Err (18, [])) (board_of r)
      none_switches t =
          keeps _ _ _ _ (running (running_of r)) (running (running_of r)) refl refl
          (none_kept kind.meaning (running_of r) r.lasting (readings_of list) list.law (kind.position p) latency (finishes_of plan) (repeat_mark plan) (repeat_length plan)
          free small w.walks w.accepts (tested None t))

      -- the crossing to the plan is that to the list and the policy of the call
      crossing_is : (ticks : ℕ) → crossing_to plan ticks ≡ record { ticks = ticks; list = readings_of list; course = course_of kind p }
      crossing_is ticks =
          ap (λ (l : Readings). record { ticks = ticks; list = readings_of l; course = plan_course plan }) w.list_is
          ∙ ap (λ (q : P). record { ticks = ticks; list = readings_of list; course = course_of kind q }) w.policy_is

      module _ (ticks : ℕ) (t : FirstTested (running_of r).course (running_of r).rows (readings_of (list_of plan)) (finishes_of plan) latency (Some ticks)) where
        kept : LogKept kind.meaning (running (running_of r)) (call.switch (readings_of list) (kind.position p) latency) (Ok (grants.Switched ticks))
            (running (to_come (record { ticks = ticks; list = readings_of list; course = course_of kind p }) (running_of r)))
        kept = switch_kept kind.meaning (running_of r) r.lasting (readings_of list) list.law (kind.position p) latency (finishes_of plan) (repeat_mark plan) (repeat_length plan)
            free small w.walks w.accepts ticks (tested (Some ticks) t)

        pub switches : (s : Run P kind) → running_of s ≡ to_come (crossing_to plan ticks) (running_of r)
            → KeepsPromise (board_of r) (call.switch (readings_of list) (kind.position p) latency) (Ok (grants.Switched ticks)) (board_of s)
        switches s e =
            keeps _ _ _ _ (running (running_of r)) _ refl (ap running (e ∙ ap (λ (x : Crossing). to_come x (running_of r)) (crossing_is ticks))) kept

        -- what the crossing leads to lasts, and where it happens at once no row comes over stale
        pub switch_leads : LastingRun (to_come (crossing_to plan ticks) (running_of r))
        switch_leads = subst (λ (x : Crossing). LastingRun (to_come x (running_of r))) (sym (crossing_is ticks)) kept.still

        pub switch_clear : ticks ≡ 0 → crossing_fault (running_of r).rows (readings_of (list_of plan)) ≡ None
        switch_clear z =
            subst (λ (n : ℕ). crossing_fault (books_at (running_of r).course (running_of r).rows n) (readings_of (list_of plan)) ≡ None) z
            (subst (λ (l : Readings). crossing_fault (books_at (running_of r).course (running_of r).rows ticks) (readings_of l) ≡ None) (sym w.list_is)
            (comes_well kind.meaning (running_of r) r.lasting (readings_of list) list.law (kind.position p) latency (finishes_of plan) (repeat_mark plan) (repeat_length plan)
            free small w.walks w.accepts ticks (tested (Some ticks) t)))
