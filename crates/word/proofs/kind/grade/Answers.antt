-- `grade` grades a word: its mask reads the key, which is one of 28 bits at most.
use Rattle.word.specs.Kinds.{kind_field}
use Rattle.word.proofs.Fields.{masked_lowest}
use Rattle.word.proofs.kind.grade.Goals as goal

pub returns : goal.returns
returns c = rw (masked_lowest c.args.w c.args.k.width kind_field.low c.requires, c.kind_of.ensures)
