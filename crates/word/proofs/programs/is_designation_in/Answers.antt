-- `is_designation_in` tests what it says: the two bits of a designation are not both 1 (`both_bits`).
use Rattle.word.proofs.Fields.{both_bits}
use Rattle.word.proofs.programs.is_designation_in.Goals as goal

pub returns : goal.returns
returns c = rw (c.field_of.ensures, both_bits c.args.w c.args.bits.low, c.requires.1)
