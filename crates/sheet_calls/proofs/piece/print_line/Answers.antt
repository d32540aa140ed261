-- `print_line` makes the call and prints the reply to it: what its answer lists is what the call writes.
use Rattle.sheet_calls.proofs.LineReplies.{listed_fits, line_ended}
use Rattle.sheet_calls.proofs.piece.print_line.Goals as goal

pub print_answer-requires-clause-listed : goal.print_answer-requires-clause-listed
print_answer-requires-clause-listed c = listed_fits c.requires.book c.make_line-answer.ensures.made

pub returns-clause-ended : goal.returns-clause-ended
returns-clause-ended c =
    let printed = c.print_answer.ensures in
    line_ended c.requires.book c.make_line-answer.ensures.made printed.value printed.within printed.out_after
