use Rattle.std.proofs.Common.{Some, length, sym, ap, ◌∙◌, subst, map, ◌≡◌, take, ◌++◌, ◌∷◌, []}
use Rattle.std.proofs.lemmas.List.{take_all}
use Rattle.std.proofs.lemmas.List.Elements.{All-drop}
use Rattle.std.proofs.lemmas.Result.{err_from_is_err_and}
use Rattle.readings.specs.Proposals.{kept, no_proposal, rows_refusal}
use Rattle.readings.specs.Refusals.{content}
use Rattle.readings.specs.Ranges.{WellMade, blank}
use Rattle.rows.specs.Held.{past, rows_of as held}
use Rattle.rows.proofs.Pushed.{push_map}
use Rattle.readings.proofs.Kept.{fits, unrefused_rows, well_made}
use Rattle.readings.proofs.Refused.{counted, unrefused}
use Rattle.readings.proofs.list.Readings.new.Goals as goal

pub returns-in_err-check_rows-clause-exact : goal.returns-in_err-check_rows-clause-exact
returns-in_err-check_rows-clause-exact c =
    let p = err_from_is_err_and c.from_residual.result c.from_residual.ensures.1 in
    let found : rows_refusal c.args.given.now ≡ Some (content c.in_err-check_rows.field-0.0) = sym c.in_err-check_rows.ensures in
    rw p.1 (λ ok. cc, λ w. let none = unrefused_rows c.args.given.now w in cc)

pub kept-requires-clause-id : goal.kept-requires-clause-id
kept-requires-clause-id c = (fits c.args.given.now (unrefused c.args.given.now c.in_ok-check_rows.ensures) c.loop-proposal.proposal-index c.loop-proposal-test.true).id

pub kept-requires-clause-work : goal.kept-requires-clause-work
kept-requires-clause-work c = (fits c.args.given.now (unrefused c.args.given.now c.in_ok-check_rows.ensures) c.loop-proposal.proposal-index c.loop-proposal-test.true).work

pub kept-requires-clause-validity : goal.kept-requires-clause-validity
kept-requires-clause-validity c = (fits c.args.given.now (unrefused c.args.given.now c.in_ok-check_rows.ensures) c.loop-proposal.proposal-index c.loop-proposal-test.true).validity

pub loop-proposal-preserved : goal.loop-proposal-preserved
loop-proposal-preserved c =
    let given = c.args.given.now in
    let n = counted (length given) c.if-not-is_list_length.ensures in
    record {
      made = push_map kept given no_proposal c.loop-proposal.proposal-index _ _ n.1 c.loop-proposal-test.true c.loop-proposal.invariant.made
          (c.push.ensures.rows ∙ ap (λ r. take 16 (held c.loop-proposal.rows ++ r ∷ [])) c.kept.ensures);
      rest = rw c.push.ensures.rest (All-drop (λ r. r ≡ blank) 1 (past c.loop-proposal.rows) c.loop-proposal.invariant.rest);
    }

pub invariant_of-result : goal.invariant_of-result
invariant_of-result c =
    let given = c.args.given.now in
    let n = counted (length given) c.if-not-is_list_length.ensures in
    let all : held c.loop-proposal.rows ≡ map kept given = c.loop-proposal.invariant.made ∙ ap (map kept) (take_all c.loop-proposal.proposal-index given c.loop-proposal-test.false) in
    record { law = subst WellMade (sym all) (well_made given (unrefused given c.in_ok-check_rows.ensures) n.0 n.1); rest = c.loop-proposal.invariant.rest }
