-- `first_plainly` finds the first word: what is left of the words has it, until the word at the index is it or none is
-- left. Assumes nothing.
use Rattle.std.proofs.Common.{leb}
use Rattle.word.specs.Kinds.{grade_of}
use Rattle.logic.proofs.Firsts.{Seeking}
use Rattle.place.proofs.search.first_plainly.Given as goal

abbrev pub invariant-loop-i : goal.invariant-loop-i
invariant-loop-i l = Seeking (λ w. leb (grade_of l.kind w) l.most) l.words l.i
