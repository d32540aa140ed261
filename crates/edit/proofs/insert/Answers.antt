-- `insert`: the part from `at` on is pushed up by the new words, and the head counts them.
use Rattle.std.proofs.Common.{◌∙◌, arith, rules}
use borrow.Rule.Slice.PartMut.{same_len_mid}
use Rattle.place.proofs.Heads.{book_long, book_month}
use Rattle.edit.proofs.Moves.{pushed_between}
use Rattle.edit.proofs.insert.Goals as goal

pub write-requires : goal.write-requires
write-requires g c =
    let book = c.requires.book in
    let long = same_len_mid c.args.at _ c.args.run.now c.push.new.s c.push.auto.s in
    omega (arith, long, book_long _ book, book_month _ book)

pub returns : goal.returns
returns g c =
    let count = c.used-count in
    let month = c.current-month in
    c.write.ensures
    ∙ pushed_between c.args.run.now c.args.words c.push.new.s c.args.at count.result g.row.COUNT month.result _
    count.ensures month.ensures (search rules) (omega arith) (omega arith) (omega arith) c.push.ensures
