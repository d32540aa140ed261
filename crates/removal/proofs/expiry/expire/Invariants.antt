-- `expire`: class by class, by the loop's law of expiring; the measure is how far the index is from the words' end.
use Rattle.std.proofs.Common.{◌-◌}
use Rattle.removal.proofs.Expiring.{Expiring}
use Rattle.removal.proofs.expiry.expire.Given as goal

abbrev pub invariant-loop-at : goal.invariant-loop-at
invariant-loop-at l = Expiring l.m l.fn.run l.run l.written l.kept l.at l.gone

abbrev pub decreases-loop-at : goal.decreases-loop-at
decreases-loop-at l = l.end - l.at
