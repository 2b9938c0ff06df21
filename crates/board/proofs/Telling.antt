-- Books and histories: what calls and their answers told goes on to tally with the books through starts, ticks and
-- switches, and so a shown age means what it should.
use Rattle.std.proofs.Common.{◌≡◌, ℕ, ◌+◌, ◌<◌, true, false, cond, eqb, List, [], ◌∷◌, length, get_or, Some, None, Option, option_map, is_some, sym, refl, ap, ◌∙◌, subst, inl, inr, arith}
use Rattle.std.proofs.lemmas.Bool.{cases_Bool}
use Rattle.std.proofs.lemmas.List.{get_or-map}
use Rattle.readings.specs.Ranges.{blank}
use Rattle.readings.specs.declared.reading.Reading.{Reading}
use Rattle.policy.specs.Course.{Answer, Course}
use Rattle.books.specs.Crossings.{carry}
use Rattle.books.specs.Lookups.{row_of}
use Rattle.books.specs.Rows.{blank_row, finished}
use Rattle.books.specs.Slots.{judged, row_after}
use Rattle.books.specs.declared.row.Row.{Row}
use Rattle.books.proofs.RowRuns.{run_works, sampled_closed}
use Rattle.board.specs.Ages.{AgeMeans, has, place_from, stay, tick_of}
use Rattle.board.specs.Answers.{crosses, tick_grant}
use Rattle.board.specs.History.{Event, History, came, comes_in, in_use, no_history, passed, after_tick, after_end}
use Rattle.board.specs.Lasting.{LastingRun, Steady}
use Rattle.board.specs.Log.{Crossing, Running, crosses_in, nearer, slot_passes, started, tick_ends, ticked, to_come}
use Rattle.board.specs.Tallies.{RowTallies, RunTallies}
use Rattle.board.specs.declared.call.Grant.TheVariants as grants
use Rattle.board.proofs.Finding.{each_readings, crossed_readings, find_crossed, find_each, found_both, number_names, readings}
use Rattle.board.proofs.Turning.{finish_runs, made, row_tallies, row_after_reading}

-- a slot of steady books passes
module _ (g : Running) (steady : Steady g.course g.rows) where
  abbrev answer : Answer
  answer = g.course 0

  -- the number of a reply names a row just where its job finishes
  shown_names : (k : ℕ) → k < length g.rows → eqb (tick_grant g).shown (k + 1) ≡ finished (judged answer k (get_or g.rows k blank_row)).job
  shown_names k h =
      let from_none : 0 + k ≡ k = omega arith in
      let only = λ (j : ℕ) (i : j < length g.rows) (f : finished (judged answer (0 + j) (get_or g.rows j blank_row)).job ≡ true).
      finish_runs (get_or g.rows j blank_row) (steady.works j blank_row i) (steady.undone j blank_row i) answer (0 + j) f in
      subst (λ (j : ℕ). eqb (tick_grant g).shown (j + 1) ≡ finished (judged answer j (get_or g.rows k blank_row)).job) from_none
      (number_names (λ j r. finished (judged answer j r).job) answer.1 0 g.rows only k h)

  -- and the tick that is told for a row is the one that its answer makes
  grant_made : (k : ℕ) → k < length g.rows → tick_of (readings g.rows) (tick_grant g) (Some k) ≡ made answer k (get_or g.rows k blank_row)
  grant_made k h =
      let s = shown_names k h in
      let w : get_or (readings g.rows) k blank ≡ (get_or g.rows k blank_row).reading = get_or-map (λ (r : Row). r.reading) g.rows k blank_row blank h in
      cc

  slot_tallies : (h : History) → RunTallies g h → RunTallies (slot_passes g) (record { events = passed (in_use h.events) (tick_grant g) ∷ h.events; next = h.next })
  slot_tallies h t =
      record {
        list = t.list ∙ sym (each_readings (row_after answer) (row_after_reading answer) 0 g.rows);
        next = t.next;
        rows = λ id x e.
            let i = find_each (row_after answer) (row_after_reading answer) 0 g.rows id x e in
            let k = i.place in
            let r : Row = get_or g.rows k blank_row in
            let from_none : 0 + k ≡ k = omega arith in
            let calm = steady.faultless 0 in
            let place : place_from 0 (in_use h.events) id ≡ Some k = ap (λ (l : List Reading). place_from 0 l id) t.list ∙ i.counted ∙ ap Some from_none in
            let made_so : tick_of (in_use h.events) (tick_grant g) (place_from 0 (in_use h.events) id) ≡ made answer k r =
            let a = t.list in let b = grant_made k i.inside in cc in
            let is : x ≡ row_after answer k r = i.after ∙ ap (λ (j : ℕ). row_after answer j r) from_none in
            let on : RowTallies (made answer k r ∷ stay id h.events) (row_after answer k r) =
            row_tallies (stay id h.events) r (t.rows id r i.before) (steady.works k blank_row i.inside) (steady.undone k blank_row i.inside) answer k
            (sampled_closed answer g.rows steady.fresh.few calm k i.inside) (run_works answer g.rows calm k i.inside) in
            rw made_so (subst (RowTallies (made answer k r ∷ stay id h.events)) (sym is) on);
      }

-- one row through a crossing: an id of both lists stays on with what was told of it, and any other comes on
crossing_row : (es : List Event) (old : List Row) (new : List Reading) (id : ℕ) → in_use es ≡ readings old
    → ((r : Row) → row_of old id ≡ Some r → RowTallies (stay id es) r) → has new id ≡ true
    → (d : Reading) (o : Option Row) → row_of old id ≡ o → RowTallies (stay id (came new ∷ es)) (carry d o)
crossing_row es old new id list t listed d None e =
    let before : has (in_use es) id ≡ false = ap (λ (l : List Reading). has l id) list ∙ found_both 0 old id ∙ ap is_some e in
    rw (listed, before) (record { value = record { age_is = refl; none = λ m h. absurd (omega arith) }; job = tt })
crossing_row es old new id list t listed d (Some r) e =
    let before : has (in_use es) id ≡ true = ap (λ (l : List Reading). has l id) list ∙ found_both 0 old id ∙ ap is_some e in
    rw (listed, before) (record { value = (t r e).value; job = tt })

-- the books of a crossing
cross_tallies : (w : Crossing) (g : Running) (h : History) → RunTallies g h → RunTallies (crosses_in w g) (comes_in w.list h.events)
cross_tallies w g h t =
    record {
      list = crossed_readings g.rows w.list;
      next = refl;
      rows = λ id x e.
          let i = find_crossed g.rows w.list id x e in
          rw i.is (crossing_row h.events g.rows w.list id t.list (t.rows id) (i.listed 0) i.reading (row_of g.rows id) refl);
    }

-- new books come as by a crossing from none
pub starts_tallies : (list : List Reading) (c : Course) → RunTallies (started list c) (comes_in list [])
starts_tallies list c =
    cross_tallies (record { ticks = 0; list = list; course = c }) (record { rows = []; course = c; waiting = None }) no_history
    (record { list = refl; next = refl; rows = λ id r e. let z : ◌≡◌ {A = ℕ} 0 1 = cc in absurd (omega arith) })

-- a crossing is to come
pub switch_tallies : (w : Crossing) (g : Running) (h : History) → RunTallies g h
    → RunTallies (to_come w g) (cond (eqb w.ticks 0) (comes_in w.list h.events) (record { events = h.events; next = Some w.list }))
switch_tallies w g h t =
    elim (cases_Bool (eqb w.ticks 0)) [
      | inl now ↦ rw now (cross_tallies w g h t)
      | inr later ↦ rw later (record { list = t.list; next = refl; rows = t.rows })
    ]

-- the end of a tick
tick_end : (g : Running) (h : History) (o : Option Crossing) → h.next ≡ option_map (λ (w : Crossing). w.list) o
    → RunTallies g h → RunTallies (tick_ends o g) (after_end (crosses o) h.events h.next)
tick_end g h None next t = rw next (record { list = t.list; next = sym next ∙ t.next; rows = t.rows })
tick_end g h (Some w) next t = rw next (switch_tallies (nearer w) g h t)

pub tick_tallies : (g : Running) (h : History) → LastingRun g → RunTallies g h → RunTallies (ticked g) (after_tick (grants.Ticked (tick_grant g)) h)
tick_tallies g h lasting tallies =
    tick_end (slot_passes g) (record { events = passed (in_use h.events) (tick_grant g) ∷ h.events; next = h.next }) g.waiting tallies.next
    (slot_tallies g lasting.steady h tallies)

-- a show gives the age of the row of its id
pub show_means : (g : Running) (h : History) (id : ℕ) (r : Row) → RunTallies g h → row_of g.rows id ≡ Some r → AgeMeans (stay id h.events) r.shown r.age
show_means g h id r t e = (t.rows id r e).value
