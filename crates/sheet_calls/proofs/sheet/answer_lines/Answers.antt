-- The call of a line is made, and the number and the value of its answer are written where there is place for them.
use Rattle.std.proofs.Common.{arith}
use Rattle.sheet_calls.proofs.Lending.{lent_again}
use Rattle.sheet_calls.proofs.Sheets.{read_more, read_done}
use Rattle.sheet_calls.proofs.sheet.answer_lines.Goals as goal

pub loop-line-preserved : goal.loop-line-preserved
loop-line-preserved c =
    let so-far = c.loop-line.invariant in
    let steps = c.in-Some.ensures.steps in
    let made = c.make_line-answer.ensures in
    record {
      so_far =
          read_more so-far.so_far steps.0 steps.1 steps.2 made.made (grind arith) made.lent.room (grind arith)
          (grind arith) c.put.ensures c.put-in-loop-line.ensures;
      lent = lent_again so-far.lent made.lent;
    }

pub returns-clause-run : goal.returns-clause-run
returns-clause-run c = read_done c.loop-line.invariant.so_far c.in-None.ensures.steps.0
