-- `Listing::write_range`: the permitted strikes of the range below the height that is reached are listed, by the rungs
-- before the index.
use Rattle.permitted.proofs.RungByRung.{Going}
use Rattle.permitted.proofs.Listing.write_range.Given as goal

abbrev pub invariant-loop-rung : goal.invariant-loop-rung
invariant-loop-rung l = Going l.fn.self l.rungs l.range l.self l.low l.rung-index
