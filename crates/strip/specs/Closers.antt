-- Where a strip stands that is walked with books.
use Rattle.books.specs.Held.{rows_of}
use Rattle.strip.specs.Closings.{Closing}
use Rattle.strip.specs.declared.closer.Closer.{Closer}

-- its slots, the place of the next one, and the rows of the books
abbrev pub closing_of : Closer → Closing
closing_of c = record { slots = c.slots.now; place = c.place; rows = rows_of c.books }
