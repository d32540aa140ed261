-- The line goes on from the bytes that are left as it did from the first, and has a number more each time.
use Rattle.std.proofs.Common.{◌-◌}
use Rattle.text.specs.Reading.{numbers_kept}
use Rattle.text.proofs.WholeLines.{LineLeft}
use Rattle.text.proofs.line.read_formed.Given as goal

abbrev pub invariant-loop-rest : goal.invariant-loop-rest
invariant-loop-rest l = LineLeft l.bytes l.line l.rest

abbrev pub decreases-loop-rest : goal.decreases-loop-rest
decreases-loop-rest l = numbers_kept - l.line.count
