-- `read_whole` reads the piece to its end: each turn reads some of what is left, and carries on what the bytes before
-- it left.
use Rattle.std.proofs.Common.{length}
use Rattle.sheet.proofs.Carrying.{PieceSoFar}
use Rattle.sheet.proofs.Memory.read_whole.Given as goal

abbrev pub invariant-loop-rest : goal.invariant-loop-rest
invariant-loop-rest g l =
    PieceSoFar l.fn.self.run l.fn.self.second l.piece l.fn.line l.self.run l.self.second l.line l.rest

abbrev pub decreases-loop-rest : goal.decreases-loop-rest
decreases-loop-rest g l = length l.rest
