-- `others_from` tells the others: the bits before `base` are shifted out.
use Rattle.std.proofs.Common.{arith}
use Rattle.scan.specs.Ahead.{block_length}
use Rattle.scan.proofs.OtherBits.{bits_last}
use Rattle.scan.proofs.ahead.others_from.Goals as goal

pub returns : goal.returns
returns c =
    rw c.others_of_64.ensures
    (bits_last c.args.s.now block_length c.min-start.result c.args.base (omega arith) (omega arith) (omega arith))
