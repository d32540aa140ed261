-- `read_lines` reads whole lines as far as there is room: what the contract says holds of those that have been read.
use Rattle.std.proofs.Common.{length, ◌-◌}
use Rattle.sheet_calls.specs.Lending.{LentOn}
use Rattle.sheet_calls.specs.Pieces.{LinesRead}
use Rattle.sheet_calls.proofs.piece.read_lines.Given as goal

abbrev pub invariant-loop-read : goal.invariant-loop-read
invariant-loop-read l =
    record {
      read : LinesRead l.fn.lent.run.now l.fn.lent.second.now l.piece l.fn.from l.fn.out l.fn.at
          (record { read = l.read; put = l.put }) l.lent.run.now l.lent.second.now l.out;
      lent : LentOn l.fn.lent l.lent;
    }

abbrev pub decreases-loop-read : goal.decreases-loop-read
decreases-loop-read l = length l.piece - l.read
