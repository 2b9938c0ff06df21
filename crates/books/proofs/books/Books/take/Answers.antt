use Rattle.std.proofs.Common.{List, sym, subst}
use Rattle.books.specs.declared.row.Row.{Row}
use Rattle.books.specs.Fresh.{Fresh}
use Rattle.books.specs.Valid.{Spare}
use Rattle.books.proofs.Held.{after_fresh, after_spare, back_long, back_rows}
use Rattle.books.proofs.books.Books.take.Goals as goal

pub next_margin-self-requires : goal.next_margin-self-requires
next_margin-self-requires c =
    let b = c.args.self.now in
    let out = c.take_all-shown.new.rows in
    let calm = sym c.in_ok-check.ensures in
    record {
      valid = (after_fresh b c.args.answer out calm c.take_all-shown.ensures.after).ages;
      spare = after_spare b c.args.answer out calm c.take_all-shown.ensures.after;
    }

pub invariant_of-self : goal.invariant_of-self
invariant_of-self c =
    let b = c.args.self.now in
    let out = c.take_all-shown.new.rows in
    let calm = sym c.in_ok-check.ensures in
    let e = c.take_all-shown.ensures.after in
    let back = sym (back_rows b c.args.answer out calm e) in
    record {
      long = back_long b c.args.answer out calm e;
      few = b.few;
      fresh = subst Fresh back (after_fresh b c.args.answer out calm e);
      spare = subst (λ (rs : List Row). Spare rs c.next_margin-self.result) back c.next_margin-self.ensures;
    }
