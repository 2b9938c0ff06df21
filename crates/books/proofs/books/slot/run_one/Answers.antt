use Rattle.std.proofs.Common.{◌-◌, inl, inr, arith}
use Rattle.books.proofs.Takes.{run_none, run_some}
use Rattle.books.proofs.books.slot.run_one.Goals as goal

pub returns-then-row-rows : goal.returns-then-row-rows
returns-then-row-rows c = run_some c.args.row c.args.rows.now c.run.new.self (c.from-row.result - 1) (omega arith) (omega arith) c.run.ensures

pub returns-else-row-ge1 : goal.returns-else-row-ge1
returns-else-row-ge1 c =
    run_none c.args.row c.args.rows.now (λ k h e. elim c.else-row-ge1.either [ inl none ↦ omega (arith, c.from-row.ensures) | inr past ↦ omega (arith, c.from-row.ensures) ])
