-- `graded_of_16` says which words are of a grade up to `most`: the bits from bit 1 on are the digits of the words
-- before i. Assumes nothing.
use Rattle.std.proofs.Common.{◌≡◌, ◌*◌, map, leb, take}
use Rattle.word.specs.Digits.{binary}
use Rattle.word.specs.Kinds.{grade_of}
use Rattle.place.proofs.search.graded_of_16.Given as goal

abbrev pub invariant-loop-i : goal.invariant-loop-i
invariant-loop-i l = l.bits ≡ 2 * binary (map (λ w. leb (grade_of l.kind w) l.most) (take l.i l.block))
