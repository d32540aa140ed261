-- `remove`: the gap from `at` on is closed among the words used, and the head counts what is left.
use Rattle.std.proofs.Common.{◌∙◌, arith}
use borrow.Rule.Slice.PartMut.{same_len_mid}
use Rattle.place.proofs.Heads.{book_long, book_month}
use Rattle.removal.proofs.Delisted.{closed_between}
use Rattle.removal.proofs.remove.Goals as goal

pub write-requires : goal.write-requires
write-requires g c =
    let book = c.requires.book in
    let long = same_len_mid c.args.at _ c.args.run.now c.close_fixed_gap.new.words c.close_fixed_gap.auto.words in
    omega (arith, long, book_long _ book, book_month _ book)

pub returns : goal.returns
returns g c =
    c.write.ensures
    ∙ closed_between _ c.close_fixed_gap.new.words c.args.at c.used-end.result g.row.COUNT c.current-month.result
    c.used-end.ensures c.current-month.ensures (omega arith) c.close_fixed_gap.ensures
