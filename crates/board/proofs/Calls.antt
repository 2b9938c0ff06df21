-- One call, by what it does to the log that a board holds.
use Rattle.std.proofs.Common.{◌≡◌, ℕ, ◌≤◌, false, true, List, map, [], is_some, Some, None, Option, Ok, Err, sym, refl, subst, inl, inr}
use Rattle.std.proofs.lemmas.Bool.{both_ways, le-ltb}
use Rattle.readings.specs.Ranges.{WellMade}
use Rattle.readings.specs.Refusals.{Content}
use Rattle.readings.specs.declared.reading.Reading.{Reading}
use Rattle.policy.specs.Course.{Meaning}
use Rattle.policy.specs.declared.policy.Policy.{Ghosts}
use Rattle.books.specs.Crossings.{crossing_fault}
use Rattle.books.specs.Lookups.{row_of}
use Rattle.books.specs.Rows.{come_on}
use Rattle.books.specs.Slots.{books_at}
use Rattle.books.specs.declared.row.Row.{Row}
use Rattle.walk.specs.Acceptance.{Accepts}
use Rattle.walk.specs.Walks.{Walks, granted, refused}
use Rattle.walk.proofs.Crossing.{keeps_test, test_keeps}
use Rattle.board.specs.Ages.{Means}
use Rattle.board.specs.Answers.{Answers, NoneStale, SwitchChecks, show_reply, tick_grant}
use Rattle.board.specs.Held.{log_of}
use Rattle.board.specs.History.{History, history_after}
use Rattle.board.specs.Lasting.{LastingRun}
use Rattle.board.specs.Log.{Crossing, Log, Reply, Running, log_after, resting, running, started, ticked, to_come}
use Rattle.board.specs.Parts.{FirstTested}
use Rattle.board.specs.Promise.{KeepsPromise}
use Rattle.board.specs.Requests as call
use Rattle.board.specs.Requests.{Request}
use Rattle.board.specs.Tallies.{Tallies}
use Rattle.board.specs.declared.board.Board.{Board}
use Rattle.board.specs.declared.call.Grant.TheVariants as grants
use Rattle.board.proofs.Crossed.{crossed_steady}
use Rattle.board.proofs.Lasting.{leads_well, switch_lasts, tick_lasts}
use Rattle.board.proofs.Only.{answers_one}
use Rattle.board.proofs.Steadying.{begins_steady, steady_sound, tick_ends, tick_judged}
use Rattle.board.proofs.Telling.{show_means, starts_tallies, switch_tallies, tick_tallies}

pub none_of : {A : Type 0} (o : Option A) → is_some o ≡ false → o ≡ None
none_of None e = refl
none_of (Some x) e = absurd (both_ways true e refl)

-- what is true of every log that a board holds
abbrev pub Lasting : Log → Type 0
Lasting resting = Unit {0}
Lasting (running g) = LastingRun g

lasting_sound : (log : Log) → Lasting log → NoneStale log
lasting_sound resting l = tt
lasting_sound (running g) l = steady_sound g.course g.rows l.steady

module _ {Pos : Type 0} (kind : Meaning Pos) where
  -- a call that is answered by a log and leads to another keeps the promise
  pub record LogKept (before : Log) (c : Request Pos) (a : Reply) (after : Log) : Type 0 where
    pub lasting : Lasting before
    pub answers : Answers kind before c a
    pub log : after ≡ log_after kind c a before
    pub still : Lasting after
    pub ages : (h : History) → Tallies before h → Means c h a
    pub tallies : (h : History) → Tallies before h → Tallies after (history_after c a h)

  -- a refused call leaves the log as it was
  pub refused_kept : (log : Log) (c : Request Pos) (e : Content) → Lasting log → Answers kind log c (Err e) → ((h : History) → Means c h (Err e)) → LogKept log c (Err e) log
  refused_kept log c e l a m =
      record { lasting = l; answers = a; log = refl; still = l; ages = λ h t. m h; tallies = λ h t. t }

  pub tick_kept : (g : Running) → LastingRun g → LogKept (running g) call.tick (Ok (grants.Ticked (tick_grant g))) (running (ticked g))
  tick_kept g l =
      record {
        lasting = l;
        answers = record { answer = refl; judged = tick_judged g.course g.rows l.steady; ends = tick_ends g.course g.rows l.steady };
        log = refl;
        still = tick_lasts g l;
        ages = λ h t. tt;
        tallies = λ h t. tick_tallies g h l t;
      }

  pub start_kept : (list : List Reading) (p : Pos) (finishes : List ℕ) (mark length : ℕ) → WellMade list
      → Walks kind p (map come_on list) (granted mark length) → Accepts (kind.course p) (map come_on list) finishes
      → LogKept resting (call.start list p) (Ok (grants.Started (record { mark = mark; length = length }))) (running (started list (kind.course p)))
  start_kept list p finishes mark length law walks accepts =
      record {
        lasting = tt;
        answers = record { outcome = granted mark length; walks = walks; answers = refl };
        log = refl;
        still = record { steady = begins_steady list (kind.course p) finishes law accepts; waits = λ w e. let never : ⊥ = cc in absurd never };
        ages = λ h t. tt;
        tallies = λ h t. starts_tallies list (kind.course p);
      }

  pub start_refused : (list : List Reading) (p : Pos) (e : Content) → Walks kind p (map come_on list) (refused e) → LogKept resting (call.start list p) (Err e) resting
  start_refused list p e walks =
      refused_kept resting (call.start list p) e tt (record { outcome = refused e; walks = walks; answers = refl }) (λ h. tt)

  -- a switch past its earlier checks
  checked : (g : Running) (latency : ℕ) (a : Reply) {Rest : Type 0} → g.waiting ≡ None → latency ≤ 4095 → Rest → SwitchChecks g latency a Rest
  checked g latency a free small rest = rw (free, le-ltb 4095 latency small) rest

  module _ (g : Running) (l : LastingRun g) (list : List Reading) (law : WellMade list) (p : Pos) (latency : ℕ) (finishes : List ℕ) (mark length : ℕ)
      (free : g.waiting ≡ None) (small : latency ≤ 4095)
      (walks : Walks kind p (map come_on list) (granted mark length)) (accepts : Accepts (kind.course p) (map come_on list) finishes) where
    abbrev there : ℕ → List Row
    there n = books_at g.course g.rows n

    -- a crossing at an instant where the test says yes leaves no row stale
    pub comes_well : (ticks : ℕ) → FirstTested g.course g.rows list finishes latency (Some ticks) → crossing_fault (there ticks) list ≡ None
    comes_well ticks first =
        leads_well g.course g.rows ticks (record { ticks = ticks; list = list; course = kind.course p })
        (crossed_steady (there ticks) list (kind.course p) finishes law accepts first.1)

    pub switch_kept : (ticks : ℕ) → FirstTested g.course g.rows list finishes latency (Some ticks)
        → LogKept (running g) (call.switch list p latency) (Ok (grants.Switched ticks)) (running (to_come (record { ticks = ticks; list = list; course = kind.course p }) g))
    switch_kept ticks first =
        let w : Crossing = record { ticks = ticks; list = list; course = kind.course p } in
        let to = crossed_steady (there ticks) list (kind.course p) finishes law accepts first.1 in
        let good = test_keeps (there ticks) list (kind.course p) finishes accepts first.1 in
        record {
          lasting = l;
          answers = checked g latency (Ok (grants.Switched ticks)) free small
              (record {
                outcome = granted mark length;
                walks = walks;
                answers = inl (record {
                  ticks = ticks;
                  answer = refl;
                  within = first.0;
                  good = record { idle = good.0; keeps = good.1 };
                  first = λ k i not_first. first.2 k i (keeps_test (there k) list (kind.course p) finishes accepts not_first.idle not_first.keeps);
                });
              });
          log = refl;
          still = switch_lasts g w l.steady first.1.idle to;
          ages = λ h t. tt;
          tallies = λ h t. switch_tallies w g h t;
        }

    -- where the test says yes at no instant, none is good
    pub none_kept : FirstTested g.course g.rows list finishes latency None → LogKept (running g) (call.switch list p latency) (Err (18, [])) (running g)
    none_kept none =
        refused_kept (running g) (call.switch list p latency) (18, []) l
        (checked g latency (Err (18, [])) free small
        (record {
          outcome = granted mark length;
          walks = walks;
          answers = inr (record { answer = refl; none = λ k i good. none k i (keeps_test (there k) list (kind.course p) finishes accepts good.idle good.keeps) });
        })) (λ h. tt)

  -- a switch whose walk is refused
  pub switch_refused : (g : Running) → LastingRun g → (list : List Reading) (p : Pos) (latency : ℕ) (e : Content) → g.waiting ≡ None → latency ≤ 4095
      → Walks kind p (map come_on list) (refused e) → LogKept (running g) (call.switch list p latency) (Err e) (running g)
  switch_refused g l list p latency e free small walks =
      refused_kept (running g) (call.switch list p latency) e l
      (checked g latency (Err e) free small (record { outcome = refused e; walks = walks; answers = refl })) (λ h. tt)

  -- a show, granted or refused
  pub show_kept : (g : Running) → LastingRun g → (id : ℕ) (o : Option Row) → row_of g.rows id ≡ o → LogKept (running g) (call.show id) (show_reply o) (running g)
  show_kept g l id None e = refused_kept (running g) (call.show id) (19, []) l (rw e refl) (λ h. tt)
  show_kept g l id (Some r) e =
      record {
        lasting = l;
        answers = rw e refl;
        log = refl;
        still = l;
        ages = λ h t. show_means g h id r t e;
        tallies = λ h t. t;
      }

  pub stop_kept : (g : Running) → LastingRun g → LogKept (running g) call.stop (Ok grants.Stopped) resting
  stop_kept g l = record { lasting = l; answers = refl; log = refl; still = tt; ages = λ h t. tt; tallies = λ h t. tt }

-- a board that holds the one log before the call and the other after it
pub keeps : {P : Type 0} {kind : Ghosts P} (b c : Board P kind) (call : Request kind.Position) (a : Reply) (before after : Log) → log_of b ≡ before → log_of c ≡ after
    → LogKept kind.meaning before call a after → KeepsPromise b call a c
keeps {P} {kind} b c call a before after e f k =
    let k' : LogKept kind.meaning (log_of b) call a (log_of c) =
    subst (λ (l : Log). LogKept kind.meaning l call a (log_of c)) (sym e) (subst (LogKept kind.meaning before call a) (sym f) k) in
    record {
      sound = lasting_sound (log_of b) k'.lasting;
      answers = k'.answers;
      only = λ other x. answers_one kind.meaning (log_of b) call other a x k'.answers;
      log = k'.log;
      still_sound = lasting_sound (log_of c) k'.still;
      ages = k'.ages;
      tallies = k'.tallies;
    }
