-- A line that is read whole, and whose answer has room, is one more that has been read.
use Rattle.std.proofs.Common.{rules}
use Rattle.sheet_calls.proofs.Lending.{lent_again}
use Rattle.sheet_calls.proofs.Readers.{lines_none, line_more}
use Rattle.sheet_calls.proofs.piece.read_lines.Goals as goal

pub loop-read-init : goal.loop-read-init
loop-read-init c =
    record {
      read = lines_none _ _ _ _ _ _ c.requires.book c.requires.inside c.requires.fits;
      lent = search rules;
    }

pub loop-read-preserved : goal.loop-read-preserved
loop-read-preserved c =
    let so-far = c.loop-read.invariant in
    let printed = c.print_line-put.ensures in
    record {
      read =
          line_more so-far.read so-far.lent.room c.loop-read.auto.out c.read_line-whole.result.end
          (rw c.line_room.ensures at c.if-end-piece.false) c.read_line-whole.ensures printed.ended;
      lent = lent_again so-far.lent printed.lent;
    }
