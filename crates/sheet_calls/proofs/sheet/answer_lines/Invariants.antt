-- `answer_lines` reads the sheet to its end: what the lines that are left make of the present words is what the whole
-- sheet makes of the first ones.
use Rattle.sheet_calls.specs.Lending.{LentOn}
use Rattle.sheet_calls.proofs.Sheets.{SheetSoFar}
use Rattle.sheet_calls.proofs.sheet.answer_lines.Given as goal

abbrev pub invariant-loop-line : goal.invariant-loop-line
invariant-loop-line l =
    record {
      so_far : SheetSoFar l.fn.lent.run.now l.fn.lent.second.now l.sheet l.fn.answers
          l.lent.run.now l.lent.second.now l.answers l.lines l.line-iterator.0.now;
      lent : LentOn l.fn.lent l.lent;
    }
