-- `read_piece` reads as far as there is room: `Feeding` holds at each byte and after the lines that are read at once,
-- and where the loop is left it is what the contract says.
use Rattle.std.proofs.Common.{length, ◌-◌}
use Rattle.sheet_calls.proofs.Readers.{Feeding}
use Rattle.sheet_calls.proofs.piece.read_piece.Given as goal

abbrev pub invariant-loop-read : goal.invariant-loop-read
invariant-loop-read l = Feeding l.fn.run l.fn.second l.piece l.fn.out l.fn.line l.run l.second l.out l.line l.put l.read

abbrev pub decreases-loop-read : goal.decreases-loop-read
decreases-loop-read l = length l.piece - l.read
