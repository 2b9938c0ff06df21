use Rattle.std.proofs.Common.{◌≡◌, ℕ, List, None, Ok, sym, refl, ◌∙◌, subst}
use Rattle.std.proofs.lemmas.Result.{err_from_is_err_and}
use Rattle.repeat.proofs.Marks.{largest}
use Rattle.books.specs.Held.{rows_of}
use Rattle.books.specs.Slots.{fault_at}
use Rattle.books.specs.declared.row.Row.{Row}
use Rattle.walk.specs.Acceptance.{Accepts}
use Rattle.walk.specs.Finishes.{NoneShown}
use Rattle.walk.specs.Plans.{outcome}
use Rattle.walk.specs.Walks.{granted}
use Rattle.walk.proofs.Ends.{as_outcome, refusal_told, repeat_found, walked, walks_from}
use Rattle.walk.proofs.Finishing.{new_unshown}
use Rattle.walk.proofs.Looping.{loops}
use Rattle.rows.specs.Held.{rows_of as held}
use Rattle.walk.specs.StepLaws.{fault_is}
use Rattle.walk.proofs.plan.Accepted.walk.Goals as goal

pub returns-in_err-repeat : goal.returns-in_err-repeat
returns-in_err-repeat g c =
    let search = c.search in
    let p = err_from_is_err_and c.from_residual.result c.from_residual.ensures.1 in
    let is : outcome c.from_residual.result ≡ as_outcome search.result = rw (p.1, p.2) (refusal_told search.result c.map_err.result c.in_err-repeat.field-0.0 c.map_err.ensures.cases c.in_err-repeat.was) in
    let w = walked g.P.Policy.meaning (g.P.Policy.position c.args.policy) (rows_of c.new.result) _ c.new.ensures.value search.result search.ensures.found search.ensures.only _ is in
    record { walks = w.walks; only = w.only; marks = largest; list = rw (p.1) tt; policy = rw (p.1) tt; accepts = rw (p.1) tt; loops = rw (p.1) tt }

pub first_finishes-finishes-requires : goal.first_finishes-finishes-requires
first_finishes-finishes-requires g c =
    let found : c.search.result ≡ Ok c.in_ok-repeat.repeat = repeat_found _ _ _ c.map_err.ensures.cases c.in_ok-repeat.was in
    let faultless = rw found at c.search.ensures.faultless in
    record {
      faultless = λ n. sym (fault_is g.P.Policy.meaning (g.P.Policy.position c.args.policy) (rows_of c.new.result) n) ∙ faultless n;
      ages = c.new.ensures.ages;
      none = subst NoneShown (sym c.new.ensures.value) (new_unshown c.args.list.now);
    }

pub of-requires-clause-accepts : goal.of-requires-clause-accepts
of-requires-clause-accepts g c =
    let found : c.search.result ≡ Ok c.in_ok-repeat.repeat = repeat_found _ _ _ c.map_err.ensures.cases c.in_ok-repeat.was in
    let ever = rw found at c.search.ensures.faultless in
    let course = g.P.Policy.meaning.course (g.P.Policy.position c.args.policy) in
    let faultless : (n : ℕ) → fault_at course (rows_of c.new.result) n ≡ None =
    λ n. sym (fault_is g.P.Policy.meaning (g.P.Policy.position c.args.policy) (rows_of c.new.result) n) ∙ ever n in
    subst (λ (rs : List Row). Accepts course rs (held c.first_finishes-finishes.result)) c.new.ensures.value
    (record { faultless = faultless; finish = c.first_finishes-finishes.ensures.each })

pub of-requires-clause-loops : goal.of-requires-clause-loops
of-requires-clause-loops g c =
    let found : c.search.result ≡ Ok c.in_ok-repeat.repeat = repeat_found _ _ _ c.map_err.ensures.cases c.in_ok-repeat.was in
    let grants = walks_from g.P.Policy.meaning (g.P.Policy.position c.args.policy) (rows_of c.new.result) (Ok c.in_ok-repeat.repeat) (rw found at c.search.ensures.found) in
    let looped = loops g.P.Policy.meaning (g.P.Policy.position c.args.policy) (rows_of c.new.result) _ _ grants in
    rw c.new.ensures.value at looped

pub returns : goal.returns
returns g c =
    let p = g.P.Policy.position c.args.policy in
    let search = c.search in
    let found : search.result ≡ Ok c.in_ok-repeat.repeat = repeat_found _ _ _ c.map_err.ensures.cases c.in_ok-repeat.was in
    let is = c.of.ensures in
    let end : granted c.of.result.mark c.of.result.length ≡ as_outcome search.result = rw (is.mark, is.length, found) refl in
    let w = walked g.P.Policy.meaning p (rows_of c.new.result) _ c.new.ensures.value search.result search.ensures.found search.ensures.only _ end in
    record {
      walks = w.walks;
      only = w.only;
      marks = largest;
      list = is.list;
      policy = is.policy;
      accepts = rw (is.policy, is.list) at c.of.result.accepted;
      loops = rw (is.policy, is.list) at c.of.result.loops;
    }
