-- `last_strikes`: the words after those that are left are strikes, and their marked ones have these bounds (`Looking`).
-- Assumes nothing.
use Rattle.std.proofs.Common.{◌≡◌}
use Rattle.std.specs.Slice.Iter.{iter_rest}
use Rattle.review.proofs.Marked.{Looking}
use Rattle.review.proofs.marks.last_strikes.Given as goal

abbrev pub invariant-loop-at : goal.invariant-loop-at
invariant-loop-at l =
    (l.at-iterator.iter.count ≡ 0) × Looking l.words l.bounds (iter_rest l.at-iterator.iter.iter)
