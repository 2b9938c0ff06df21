use Rattle.std.proofs.Common.{◌≡◌, Ok, Err, Result, OnOk, OnErr, is_ok, sym, refl, ap, ◌∙◌}
use Rattle.std.proofs.lemmas.Bool.{OnFalse_at, OnTrue_at, both_ways}
use Rattle.std.proofs.lemmas.Result.{IfErr-at_err, IfOk-at_ok, err_from_is_err_and, on_err_weaker, on_ok_weaker}
use Rattle.lines.specs.Left.{left, none_left}
use Rattle.lines.specs.Pieces.{pieces}
use Rattle.script.specs.Drafting.{Drafting}
use Rattle.script.specs.Held.{drafts_state}
use Rattle.script.specs.States.{first_state}
use Rattle.script.proofs.Shortages.{if_memory_both, led_more, none_led, stopped_at}
use Rattle.script.proofs.TextRuns.{called_answered, called_begun, line_reached, none_reached, nothing_left, rest_reached, so_far, stopped_begun}
use Rattle.script.proofs.rehearsal.answer_plans.Goals as goal

-- what holds of a result holds of it with another error
ok_mapped : {T E F : Type 0} (P : Type 0) (r : Result T E) (q : Result T F) → is_ok q ≡ is_ok r → OnOk r P → OnOk q P
ok_mapped P (Ok x) (Ok y) e h = h
ok_mapped P (Ok x) (Err f) e h = tt
ok_mapped P (Err d) (Ok y) e h = absurd cc
ok_mapped P (Err d) (Err f) e h = tt

err_mapped : {T E F : Type 0} (P : Type 0) (r : Result T E) (q : Result T F) → is_ok q ≡ is_ok r → OnErr r P → OnErr q P
err_mapped P (Ok x) (Ok y) e h = tt
err_mapped P (Ok x) (Err f) e h = absurd cc
err_mapped P (Err d) (Ok y) e h = tt
err_mapped P (Err d) (Err f) e h = h

pub loop-line-preserved-in-Continue-1 : goal.loop-line-preserved-in-Continue-1
loop-line-preserved-in-Continue-1 g c =
    let done = sym c.is_rest.ensures ∙ c.if-is_rest.true in
    let none = nothing_left (left c.next.new.self) done in (
      rest_reached g.S.Sink.with_one _ (g.S.Sink.got c.loop-line.sink) _ _ _ (left c.loop-line.lines) c.loop-line.invariant.0 c.in-Some.line.now (left c.next.new.self)
          c.in-Some.ensures.steps.0 none (g.S.Sink.got c.take_rest.new.sink) c.take_rest.ensures.nothing
          (λ some. IfOk-at_ok _ c.in_ok-map_err.was (ok_mapped _ c.take_rest.result c.map_err.result c.map_err.ensures.variant (c.take_rest.ensures.cut_short some))),
      λ another. absurd (both_ways (none_left (left c.next.new.self)) another done),
    )

pub returns-in_err-map_err-clause-err : goal.returns-in_err-map_err-clause-err
returns-in_err-map_err-clause-err g c =
    let p = err_from_is_err_and c.from_residual.result c.from_residual.ensures.1 in
    rw p.1 (so_far g.S.Sink.with_one _ (g.S.Sink.got c.loop-line.sink) _ _ _ (left c.loop-line.lines) c.loop-line.invariant.0 (g.S.Sink.got c.take_rest.new.sink)
    (IfErr-at_err _ c.in_err-map_err.was (err_mapped _ c.take_rest.result c.map_err.result c.map_err.ensures.variant c.take_rest.ensures.err)))

pub returns-in_err-line-clause-err : goal.returns-in_err-line-clause-err
returns-in_err-line-clause-err g c =
    let p = err_from_is_err_and c.from_residual-in_err-line.result c.from_residual-in_err-line.ensures.1 in
    rw p.1 (stopped_begun g.S.Sink.with_one _ (g.S.Sink.got c.loop-line.sink) _ _ _ (left c.loop-line.lines) c.loop-line.invariant.0 c.in-Some.line.now (left c.next.new.self)
    c.in-Some.ensures.steps.0 (sym c.is_rest.ensures ∙ c.if-is_rest.false) (g.S.Sink.got c.line.new.sink) c.in_err-line.field-0.0
    c.in_err-line.ensures.nothing_got c.in_err-line.ensures.begun)

pub returns-then-branch-clause-ok : goal.returns-then-branch-clause-ok
returns-then-branch-clause-ok g c =
    let kept = OnTrue_at c.if-branch.true c.in_ok-line.ensures.left in
    ok_mapped _ c.answer_calls.result c.map_err-then-branch.result c.map_err-then-branch.ensures.variant
    (on_ok_weaker c.answer_calls.result
    (called_answered g.S.Sink.with_one _ (g.S.Sink.got c.loop-line.sink) _ _ _ (left c.loop-line.lines) c.loop-line.invariant.0 c.in-Some.line.now (left c.next.new.self)
    c.in-Some.ensures.steps.0 (sym c.is_rest.ensures ∙ c.if-is_rest.false) (sym c.in_ok-line.ensures.ends ∙ c.if-branch.true)
    (g.S.Sink.got c.line.new.sink) (drafts_state c.line.new.self) kept.1 (ap (λ (d : Drafting). record first_state { drafts = d }) kept.0)
    (g.S.Sink.got c.answer_calls.new.sink))
    c.answer_calls.ensures.ok)

pub returns-then-branch-clause-err : goal.returns-then-branch-clause-err
returns-then-branch-clause-err g c =
    let kept = OnTrue_at c.if-branch.true c.in_ok-line.ensures.left in
    err_mapped _ c.answer_calls.result c.map_err-then-branch.result c.map_err-then-branch.ensures.variant
    (on_err_weaker c.answer_calls.result
    (called_begun g.S.Sink.with_one _ (g.S.Sink.got c.loop-line.sink) _ _ _ (left c.loop-line.lines) c.loop-line.invariant.0 c.in-Some.line.now (left c.next.new.self)
    c.in-Some.ensures.steps.0 (sym c.is_rest.ensures ∙ c.if-is_rest.false) (sym c.in_ok-line.ensures.ends ∙ c.if-branch.true)
    (g.S.Sink.got c.line.new.sink) (drafts_state c.line.new.self) kept.1 (ap (λ (d : Drafting). record first_state { drafts = d }) kept.0)
    (g.S.Sink.got c.answer_calls.new.sink))
    c.answer_calls.ensures.err)

pub loop-line-preserved : goal.loop-line-preserved
loop-line-preserved g c =
    let given = OnFalse_at c.if-branch.false c.in_ok-line.ensures.ok in (
      line_reached g.S.Sink.with_one _ (g.S.Sink.got c.loop-line.sink) _ _ _ (left c.loop-line.lines) c.loop-line.invariant.0 c.in-Some.line.now (left c.next.new.self)
          c.in-Some.ensures.steps.0 (sym c.is_rest.ensures ∙ c.if-is_rest.false) (g.S.Sink.got c.line.new.sink) (drafts_state c.line.new.self) given,
      λ another. led_more g.S.Sink.with_one _ (g.S.Sink.got c.loop-line.sink) _ _ (left c.loop-line.lines) (c.loop-line.invariant.1 (ap none_left c.in-Some.ensures.steps.0))
          c.in-Some.line.now (left c.next.new.self) c.in-Some.ensures.steps.0 (g.S.Sink.got c.line.new.sink) c.line.new.self given,
    )

pub loop-line-init : goal.loop-line-init
loop-line-init g c =
    let old = g.S.Sink.got c.args.sink.now in
    let lines = pieces 10 c.args.text.now in (
      rw (c.new-lines.ensures.pieces, c.requires) (none_reached g.S.Sink.with_one old first_state lines),
      λ another. rw c.new-lines.ensures.pieces (none_led g.S.Sink.with_one old lines c.args.drafts c.requires),
    )

pub returns-in_err-line-clause-no_room : goal.returns-in_err-line-clause-no_room
returns-in_err-line-clause-no_room g c =
    let p = err_from_is_err_and c.from_residual-in_err-line.result c.from_residual-in_err-line.ensures.1 in
    rw p.1 (if_memory_both p.0 c.in_err-line.field-0.0 _ _ _ p.2 c.in_err-line.ensures.no_room c.in_err-line.ensures.nothing_got
    (λ no_room same. stopped_at g.S.Sink.with_one _ (g.S.Sink.got c.loop-line.sink) _ _ (left c.loop-line.lines)
    (c.loop-line.invariant.1 (ap none_left c.in-Some.ensures.steps.0)) c.in-Some.line.now (left c.next.new.self) c.in-Some.ensures.steps.0
    c.args.text.now refl (sym c.is_rest.ensures ∙ c.if-is_rest.false) (g.S.Sink.got c.line.new.sink) same no_room))
