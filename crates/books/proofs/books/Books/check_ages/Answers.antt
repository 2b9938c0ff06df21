use Rattle.books.specs.Held.{rows_of}
use Rattle.books.proofs.Keeps.{spare_calm}
use Rattle.books.proofs.books.Books.check_ages.Goals as goal

pub returns-then-self-gt0 : goal.returns-then-self-gt0
returns-then-self-gt0 c = spare_calm (rows_of c.args.self.now) c.args.self.now.margin c.args.self.now.spare c.if-self-gt0.true
