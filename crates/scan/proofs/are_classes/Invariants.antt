-- `are_classes` tests the classes: what all are after those passed.
use Rattle.std.proofs.Common.{◌-◌, ◌≡◌, length}
use Rattle.scan.proofs.Classes.{Walked, count_of}
use Rattle.scan.proofs.are_classes.Given as goal

abbrev pub invariant-loop-ahead : goal.invariant-loop-ahead
invariant-loop-ahead l =
    Walked l.current l.s l.ahead.at l.last (count_of l.dollars.0 l.halves.0 l.two_fifties.0)
    × (l.ahead.words.now ≡ l.s)

abbrev pub decreases-loop-ahead : goal.decreases-loop-ahead
decreases-loop-ahead l = length l.s - l.ahead.at
