use Rattle.std.proofs.Common.{rules}
use Rattle.books.proofs.Named.{none_past}
use Rattle.books.proofs.books.slot.is_named.Goals as goal

pub returns-else-k-lt16 : goal.returns-else-k-lt16
returns-else-k-lt16 c = search (rules, none_past)
