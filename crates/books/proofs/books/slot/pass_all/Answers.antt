use Rattle.std.proofs.Common.{◌≡◌, ◌∙◌, get_or, ap, arith, subst, sym, ◌+◌}
use Rattle.std.proofs.lemmas.List.{get_or-set_other}
use Rattle.books.specs.Parts.{finishes, passed}
use Rattle.books.specs.Rows.{blank_row, closed, finished}
use Rattle.books.specs.declared.row.Row.{Row}
use Rattle.books.proofs.Each.{taken_more}
use Rattle.books.proofs.Takes.{ShownBelow, shown_here, shown_not}
use Rattle.books.proofs.books.slot.pass_all.Goals as goal
use Rattle.books.proofs.books.slot.pass_all.Goals.{then-close, else-close}

pub loop-k-preserved : goal.loop-k-preserved
loop-k-preserved c =
    let k = c.loop-k.k in
    let old = c.args.rows.now in
    let row : Row = get_or c.loop-k.rows k blank_row in
    let inside = c.loop-k-test.true in
    let e : row ≡ get_or old k blank_row = c.loop-k.invariant.rest k (omega arith) in
    let closes : c.close.result ≡ finishes k (get_or old k blank_row) = c.close.ensures.value ∙ ap (λ (r : Row). finished r.job) c.grow.ensures ∙ ap (finishes k) e in
    record {
      taken = taken_more passed k old c.loop-k.rows blank_row c.close.new.self (omega arith) c.loop-k.invariant.taken (c.close.ensures.after ∙ ap closed c.grow.ensures);
      rest = λ j h. get_or-set_other c.loop-k.rows k j c.close.new.self blank_row (λ z. omega arith) ∙ c.loop-k.invariant.rest j (omega arith);
      shown = elim c.if-close.branch [
        | then-close w ↦ shown_here k old c.loop-k.shown c.if-close.shown inside c.loop-k.invariant.shown (sym w.if-close.true ∙ closes) (w.shown-is ∙ w.or-shown.ensures)
        | else-close w ↦ subst (ShownBelow (k + 1) old) (sym w.shown-is) (shown_not k old c.loop-k.shown inside c.loop-k.invariant.shown (sym w.if-close.false ∙ closes))
      ];
    }
