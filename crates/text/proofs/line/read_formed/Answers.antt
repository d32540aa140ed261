-- A number more is read, and the line goes on after it.
use Rattle.std.proofs.Common.{arith}
use Rattle.text.proofs.WholeLines.{left_more}
use Rattle.text.proofs.line.read_formed.Goals as goal

pub loop-rest-preserved : goal.loop-rest-preserved
loop-rest-preserved c =
    let longer = c.in-Some-with_number.ensures in
    left_more c.loop-rest.rest.now c.loop-rest.invariant (omega arith) c.in-Some.ensures longer.0 longer.1
