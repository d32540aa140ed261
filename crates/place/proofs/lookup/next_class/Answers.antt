-- `next_class` finds the next class word: none of the words used from there on is of a lower kind. Assumes nothing.
use Rattle.std.proofs.Common.{arith}
use Rattle.place.proofs.Found.{next_class_word}
use Rattle.place.proofs.lookup.next_class.Goals as goal

pub returns : goal.returns
returns c =
    let r = c.requires in (
      rw (← next_class_word _ r.book _ r.after r.within, ← c.used_from.ensures.words, c.first.ensures.0),
      omega arith,
    )
