-- `make_line` makes the call of the letter and the numbers that the line holds: those that it counts, or all that it
-- keeps; and a book is left a book.
use Rattle.std.proofs.Common.{◌≡◌, true, sym, ◌∙◌}
use Rattle.book.specs.Books.{is_book}
use Rattle.book.proofs.Followed.{made_book}
use Rattle.logic.proofs.Tests.{T_true, true_T}
use Rattle.sheet_calls.proofs.lent.Lent.make_line.Goals as goal

pub invariant_of-self : goal.invariant_of-self
invariant_of-self c =
    let lent = c.args.self.now in
    let book : is_book lent.run.now ≡ true = sym lent.is_tested ∙ c.if-not-self.false in
    let left = made_book (true_T (is_book lent.run.now) book) c.make_line.ensures in
    record { is_tested = c.if-not-self.false ∙ sym (T_true (is_book c.make_line.new.run) left.0) }
