-- `skip_to` tells what is ahead of a later word: each turn goes a block on towards it.
use Rattle.std.proofs.Common.{◌-◌}
use Rattle.scan.proofs.Others.{Towards}
use Rattle.scan.proofs.ahead.Ahead.skip_to.Given as goal

abbrev pub invariant-loop-blocks : goal.invariant-loop-blocks
invariant-loop-blocks l = Towards l.words l.at l.blocks

abbrev pub decreases-loop-blocks : goal.decreases-loop-blocks
decreases-loop-blocks l = l.at - l.blocks.base
