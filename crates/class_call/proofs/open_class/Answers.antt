-- `open_class` keeps the contract of `O`: each way out by its law. Assumes nothing.
use Rattle.std.proofs.Common.{arith, rules}
use Rattle.book.specs.Calls.{on, call_o, effect_on}
use Rattle.book.proofs.Answered.{made_beyond}
use Rattle.place.proofs.Heads.{book_room, book_long}
use Rattle.class_call.proofs.Ways.{already_open, out_of_words, class_opened_lem}
use Rattle.class_call.proofs.open_class.Goals as goal

pub returns-then-not-is_class_number : goal.returns-then-not-is_class_number
unfolding effect_on
returns-then-not-is_class_number c = made_beyond (on _ call_o) _ _ c.requires (search rules)

pub returns-then-is_open_at : goal.returns-then-is_open_at
returns-then-is_open_at c = already_open _ _ c.requires (search rules) (search rules)

pub overflow_add-used : goal.overflow_add-used
overflow_add-used c = omega (arith, c.used.ensures, book_room _ c.requires, book_long _ c.requires)

pub returns-then-run-used : goal.returns-then-run-used
returns-then-run-used c =
    out_of_words _ _ c.requires (search rules) (search rules) _ c.used.ensures c.if-run-used.true

pub returns : goal.returns
returns c =
    class_opened_lem _ _ c.requires (search rules) (search rules) _ c.used.ensures c.if-run-used.false _
    c.insert_class.ensures
