-- `first_rising` finds the first word by guesses: what is left from `low` on has it, and a guess takes words from what
-- is between `low` and `high`. Assumes nothing.
use Rattle.std.proofs.Common.{◌-◌, ◌≤◌, ◌<◌, length}
use Rattle.logic.proofs.Firsts.{Seeking}
use Rattle.place.specs.Search.{is_from}
use Rattle.place.proofs.search.first_rising.Given as goal

abbrev pub invariant-loop-guess : goal.invariant-loop-guess
invariant-loop-guess l =
    (l.left.high ≤ length l.words) × Seeking (is_from l.kind l.key) l.words l.left.low × (l.turn < 8)

abbrev pub decreases-loop-guess : goal.decreases-loop-guess
decreases-loop-guess l = l.left.high - l.left.low
