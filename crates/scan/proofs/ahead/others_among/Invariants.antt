-- `others_among` tells the others: the bits so far are those of the words passed.
use Rattle.std.proofs.Common.{◌≡◌}
use Rattle.scan.specs.Ahead.{bits_at}
use Rattle.scan.proofs.ahead.others_among.Given as goal

abbrev pub invariant-loop-i : goal.invariant-loop-i
invariant-loop-i l = l.bits ≡ bits_at l.s 1 l.i
