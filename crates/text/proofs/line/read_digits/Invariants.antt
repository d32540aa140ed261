-- What the bytes that are left give from here is what all of them give from the start.
use Rattle.std.proofs.Common.{◌≡◌, length}
use Rattle.text.specs.WholeLines.{digits_read}
use Rattle.text.proofs.line.read_digits.Given as goal

abbrev pub invariant-loop-rest : goal.invariant-loop-rest
invariant-loop-rest l = digits_read l.number l.rest ≡ digits_read l.first l.bytes

abbrev pub decreases-loop-rest : goal.decreases-loop-rest
decreases-loop-rest l = length l.rest
