-- `field_of` reads a field: its shift and mask are a quotient and a remainder by powers of two.
use Rattle.word.proofs.Fields.{masked}
use Rattle.word.proofs.field.field_of.Goals as goal

pub returns : goal.returns
returns c = masked c.args.w c.args.f c.requires.1
