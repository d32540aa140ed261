-- `make_line` makes the call of the letter and the numbers that the line holds: those that it counts, or all that it
-- keeps, are handed on.
use Rattle.std.proofs.Common.{◌≡◌, ◌≤◌, ◌∙◌, ap, arith, length, take, take_all, min}
use Rattle.text.specs.Reading.{numbers_kept}
use Rattle.dispatch.proofs.NamedCalls.{counted_of}
use Rattle.sheet_calls.proofs.sheet.make_line.Goals as goal

pub returns : goal.returns
returns c =
    let line = c.args.line in
    let count = c.min-count in
    let all : length line.numbers ≤ numbers_kept = omega arith in
    let counted : count.result ≡ min line.count numbers_kept = omega (arith, count.ensures) in
    let handed =
    counted_of numbers_kept line.count count.result line.numbers counted
    ∙ ap (take line.count) (take_all numbers_kept line.numbers all) in
    rw handed at rw c.from.ensures at c.make_call.ensures
