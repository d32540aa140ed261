-- `expirations_end` finds the end of a class's series: what the series from the start are after those passed.
use Rattle.std.proofs.Common.{◌-◌, ◌≡◌, length}
use Rattle.scan.proofs.ExpirationLoop.{Expirations}
use Rattle.scan.proofs.expirations_end.Given as goal

abbrev pub invariant-loop-ahead : goal.invariant-loop-ahead
invariant-loop-ahead l =
    Expirations l.current l.s l.initial.ahead.at l.least l.ahead.at × (l.ahead.words.now ≡ l.s)

abbrev pub decreases-loop-ahead : goal.decreases-loop-ahead
decreases-loop-ahead l = length l.s - l.ahead.at
