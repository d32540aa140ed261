-- A line that has the form ends where the bytes after it begin.
use Rattle.text.proofs.WholeLines.{whole_formed}
use Rattle.text.proofs.line.read_line.Goals as goal

pub returns-in-Ok : goal.returns-in-Ok
returns-in-Ok c =
    whole_formed c.args.sheet.now c.args.from c.requires c.in-Ok.line c.in-Ok.rest.now c.in-Ok.ensures
