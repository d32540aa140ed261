-- A fresh book is a book.
use Rattle.sheet.proofs.Carrying.{fresh_book}
use Rattle.sheet.proofs.Memory.new.Goals as goal

pub invariant_of-result-clause-book : goal.invariant_of-result-clause-book
invariant_of-result-clause-book c = fresh_book c.fresh.ensures.words
