-- `write_permitted`: so many of the ranges are listed as the index says.
use Rattle.permitted.proofs.BothRanges.{Turned}
use Rattle.permitted.proofs.write_permitted.Given as goal

abbrev pub invariant-loop-range : goal.invariant-loop-range
invariant-loop-range l = Turned l.initial.listing l.range-index l.listing
