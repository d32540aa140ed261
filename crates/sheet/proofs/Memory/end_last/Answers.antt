-- `end_last` ends a line that has begun: what is left is what `end_line` says, and else what was lent. The call is made
-- before its reply is printed, so a write that fails changes nothing.
use Rattle.sheet.proofs.Carrying.{last_none, last_made, phase_begun}
use Rattle.sheet.proofs.Memory.end_last.Goals as goal

pub returns-in-Start : goal.returns-in-Start
returns-in-Start g c = last_none c.args.line c.args.self.now.book c.in-Start.is

pub returns-in_err-write_all : goal.returns-in_err-write_all
returns-in_err-write_all g c =
    let line = c.args.line in
    last_made line (phase_begun line.phase c.in_default.not-Start) c.end_line-put.ensures

pub returns : goal.returns
returns g c =
    let line = c.args.line in
    last_made line (phase_begun line.phase c.in_default.not-Start) c.end_line-put.ensures
