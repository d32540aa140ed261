-- `class_remembered` answers what `class_near` finds, whatever the slot remembers: the place that the slot is given is
-- within the words used. Assumes nothing.
use Rattle.std.proofs.Common.{arith}
use Rattle.place.proofs.Heads.{book_room, book_long}
use Rattle.place.proofs.Found.{class_within}
use Rattle.place.proofs.lookup.class_remembered.Goals as goal

pub overflow_cast-places-2 : goal.overflow_cast-places-2
overflow_cast-places-2 c =
    let w = c.args.run.now in
    let book = c.requires.0 in
    omega (arith, class_within w book c.args.c, book_room w book, book_long w book)
