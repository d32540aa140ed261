-- `first` finds the first word by blocks: what is left of the words has it, until a block has it or only the words
-- after the blocks are left. Assumes nothing.
use Rattle.std.proofs.Common.{◌*◌, leb}
use Rattle.word.specs.Kinds.{grade_of}
use Rattle.logic.proofs.Firsts.{Seeking}
use Rattle.place.specs.declared.search.TheConstants.{BLOCK}
use Rattle.place.proofs.search.first.Given as goal

abbrev pub invariant-loop-i : goal.invariant-loop-i
invariant-loop-i l = Seeking (λ w. leb (grade_of l.kind w) l.most) l.words (BLOCK * l.i)
