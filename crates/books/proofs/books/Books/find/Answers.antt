use Rattle.std.proofs.Common.{◌==◌, List, ap, ◌∙◌, rules}
use borrow.Author.Tests.{tests}
use Rattle.std.proofs.lemmas.Iterator.{YieldsList-from_slice}
use Rattle.std.proofs.lemmas.Iterator.Search.{find_from_yields_List}
use Rattle.books.specs.declared.row.Row.{Row}
use Rattle.books.specs.Lookups.{row_of}
use Rattle.books.proofs.books.Books.find.Goals as goal

pub returns : goal.returns
returns c =
    c.copied.ensures
    ∙ find_from_yields_List (λ r. r.reading.id == c.args.id) _ _ c.find.result c.find.ensures.ran (YieldsList-from_slice c.rows.result.now (cc)) (λ x b q k. search (rules, tests))
    ∙ ap (λ (rs : List Row). row_of rs c.args.id) c.rows.ensures.value
