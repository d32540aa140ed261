-- `new` tells what is ahead: the word at `at` is looked at by itself.
use Rattle.std.proofs.Common.{arith}
use Rattle.scan.proofs.Others.{tells_start}
use Rattle.scan.proofs.ahead.Ahead.new.Goals as goal

pub invariant_of-result : goal.invariant_of-result
invariant_of-result c =
    let blocks = c.new-blocks in
    record {
      tells =
          tells_start c.args.words.now c.args.at blocks.result (omega arith) (omega arith) blocks.ensures.0
          blocks.ensures.1.0 blocks.ensures.1.1;
    }
