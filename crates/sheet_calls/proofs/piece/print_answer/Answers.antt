-- `print_answer` prints into the room of a line, since the answer and the strikes are numbers of 32 bits.
use Rattle.std.proofs.Common.{arith, rules}
use Rattle.sheet_calls.proofs.LineReplies.{printed_fits}
use Rattle.sheet_calls.proofs.piece.print_answer.Goals as goal

pub put_answer-requires : goal.put_answer-requires
put_answer-requires c =
    let a = c.args in
    let listed = c.strikes_listed-count.ensures in
    rw listed.count (omega (arith, printed_fits a.answer a.second.now listed.fits (λ k. search rules)))

pub returns-clause-within : goal.returns-clause-within
returns-clause-within c =
    let a = c.args in
    let listed = c.strikes_listed-count.ensures in
    let next = rw listed.count at c.put_answer.ensures.value in
    omega (arith, next, printed_fits a.answer a.second.now listed.fits (λ k. search rules))
