-- `run_sheet` leaves what the calls in the bytes leave: all bytes read, and the last line ended; or, where the input
-- breaks off, the lines that were read to their ends.
use Rattle.std.proofs.Common.{arith}
use Rattle.sheet.proofs.Carrying.{sheet_cut, sheet_left}
use Rattle.sheet.proofs.Memory.run_sheet.Goals as goal

pub returns-in_err-line : goal.returns-in_err-line
returns-in_err-line g c = sheet_cut c.requires c.in_err-line.ensures.err

pub returns : goal.returns
returns g c = sheet_left c.requires c.in_ok-line.ensures.ok (omega arith) (omega arith) c.end_last.ensures
