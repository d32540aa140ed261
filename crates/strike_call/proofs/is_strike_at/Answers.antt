-- `is_strike_at` reads the word's kind within the words used, which the run has room for.
use Rattle.std.proofs.Common.{arith}
use Rattle.place.proofs.Heads.{book_room, book_long}
use Rattle.strike_call.proofs.is_strike_at.Goals as goal

pub offset_bounds-run-at : goal.offset_bounds-run-at
offset_bounds-run-at c =
    let w = c.args.run.now in
    omega (arith, c.used.ensures, book_room w c.requires, book_long w c.requires)

pub bounds-run-at : goal.bounds-run-at
bounds-run-at c = omega (arith, c.used.ensures, book_room c.args.run.now c.requires)
