use Rattle.std.proofs.Common.{◌≡◌, ℕ, All, IfOk, List, Ok, Err, Result, length, rules}
use Rattle.deferral.proofs.LaidRows.{laid}
use Rattle.deferral.specs.Laid.{Laid}
use Rattle.deferral.specs.Laying.{lay}
use Rattle.readings.specs.Lists.{rows_of}
use Rattle.readings.specs.Ranges.{WorkRange}
use Rattle.readings.specs.declared.reading.Reading.{Reading}
use Rattle.readings.specs.declared.refusal.Refusal.{Refusal}
use Rattle.deferral.proofs.laying.lay.Goals as goal

-- what is laid as the definition says has the law
law_of : (rs : List Reading) → All WorkRange rs → (n : ℕ) (xs : List ℕ) (r : Result ℕ Refusal) → IfOk r (λ limit. lay rs n ≡ Ok (xs, limit)) → IfOk r (λ limit. Laid rs n xs limit)
law_of rs works n xs (Ok limit) h = laid rs works n xs limit h
law_of rs works n xs (Err e) h = h

pub returns-else-is_err-clause-law : goal.returns-else-is_err-clause-law
returns-else-is_err-clause-law c =
    law_of (rows_of c.args.list.now) c.args.list.now.law.works (length c.args.slots.now) c.lay_rows-laid.new.slots c.lay_rows-laid.result (search rules)
