-- `Listing::write_multiples`: below the strike that is tried all permitted ones are written.
use Rattle.std.proofs.Common.{◌+◌, ◌-◌}
use Rattle.word.specs.Limits.{highest_strike}
use Rattle.permitted.proofs.Trying.{Trying}
use Rattle.permitted.proofs.Listing.write_multiples.Given as goal

abbrev pub invariant-loop-h : goal.invariant-loop-h
invariant-loop-h l = Trying l.fn.self l.rung l.range l.reach l.self l.next l.h

abbrev pub decreases-loop-h : goal.decreases-loop-h
decreases-loop-h l = highest_strike + 1 - l.h
