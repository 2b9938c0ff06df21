-- The rows that are read are judged as a list is.
use Rattle.std.proofs.Common.{◌≡◌, ℕ, ◌≤◌, ◌/◌, List, length, take, drop, map, ◌+◌, ◌<◌, set, sym, ap, subst, ◌∙◌, arith}
use Rattle.std.specs.Prelude.{IfOk}
use Rattle.std.specs.Simd.{first_chunks}
use Rattle.std.proofs.lemmas.List.{length-drop, length-set, length-take, take_all}
use Rattle.readings.specs.Lists.{rows_of}
use Rattle.readings.specs.Proposals.{kept, list_refusal}
use Rattle.readings.specs.Refusals.{refusal_of}
use Rattle.readings.specs.declared.reading.Proposal.{Proposal}
use Rattle.showfile.specs.Told.{byte_at, row_read, rows_read}
use Rattle.showfile.proofs.RowsCut.{one_read, refusal_is, rows_cut, too_many}
use Rattle.showfile.proofs.head.list_of.Goals as goal

pub returns-then-count-gt16-clause-refused : goal.returns-then-count-gt16-clause-refused
returns-then-count-gt16-clause-refused c =
    let more = c.if-count-gt16.true in
    sym (too_many c.args.block.now (omega (arith, more, c.from-count.ensures)))

pub loop-k-preserved : goal.loop-k-preserved
loop-k-preserved c =
    let few : c.from-count.result ≤ 16 = c.if-count-gt16.false in
    let items = take c.from-count.result c.as_chunks.result.0.now in
    let k = c.loop-k.k in
    let room : k < length c.loop-k.given
    = omega (arith, few, c.loop-k-test.true, length-take c.from-count.result c.as_chunks.result.0.now, c.loop-k.invariant.0) in (
      length-set c.loop-k.given k c.row_read.result ∙ c.loop-k.invariant.0,
      subst (λ (p : Proposal). take (k + 1) (set c.loop-k.given k p) ≡ map row_read (take (k + 1) items))
          (sym c.row_read.ensures) (one_read c.loop-k.given items k room c.loop-k-test.true c.loop-k.invariant.1),
    )

-- the rows given are those that the block tells
given_rows : (c : goal.After-new) → take c.from-count.result c.loop-k.given ≡ rows_read c.args.block.now
given_rows c =
    let block = c.args.block.now in
    let pieces = length (drop 5 block) / 5 in
    let few : c.from-count.result ≤ 16 = c.if-count-gt16.false in
    let long : length (drop 5 block) ≡ 507 = omega (arith, length-drop 5 block, c.told-block) in
    let fits : c.from-count.result ≤ pieces = omega (arith, long, few) in
    let behind = take_all 507 (drop 5 block) (omega arith) in
    let cut : c.as_chunks.result.0.now ≡ first_chunks 5 pieces (drop 5 block)
    = c.as_chunks.ensures.front ∙ ap (λ (xs : List ℕ). first_chunks 5 (length xs / 5) xs) behind in
    let told : c.from-count.result ≡ byte_at 4 block = c.from-count.ensures in
    rows_cut block c.from-count.result c.loop-k.k pieces c.as_chunks.result.0.now c.loop-k.given cut told fits
    c.loop-k-test.false c.loop-k.auto.k-end c.loop-k.invariant.1

pub returns-clause-refused : goal.returns-clause-refused
returns-clause-refused c =
    subst (λ (ps : List Proposal). refusal_of c.new.result ≡ list_refusal ps) (given_rows c)
    (refusal_is c.new.result _ c.new.ensures.err c.new.ensures.granted.0)

pub returns-clause-list : goal.returns-clause-list
returns-clause-list c =
    subst (λ (ps : List Proposal). IfOk c.new.result (λ l. rows_of l ≡ map kept ps)) (given_rows c) c.new.ensures.ok
