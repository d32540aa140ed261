-- `next_other` finds the next other: what is searched stays the same, further on.
use Rattle.std.proofs.Common.{suc, ◌+◌, ◌-◌, length, get_or, drop}
use Rattle.scan.specs.NextStrikes.{next_length}
use Rattle.scan.proofs.Others.{Searched}
use Rattle.scan.proofs.ahead.Ahead.next_other.Given as goal

abbrev pub invariant-loop-blocks : goal.invariant-loop-blocks
invariant-loop-blocks l =
    let at = l.fn.self.at in
    Searched l.words (suc at + next_length (get_or l.words at 0) (drop (suc at) l.words)) l.blocks

abbrev pub decreases-loop-blocks : goal.decreases-loop-blocks
decreases-loop-blocks l = length l.words - l.blocks.base
