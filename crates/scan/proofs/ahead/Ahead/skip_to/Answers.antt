-- `skip_to`: a block on, the bits are those that were told of before, and at the end the word is in the block.
use Rattle.scan.proofs.Others.{towards_start, towards_on, tells_there}
use Rattle.scan.proofs.ahead.Ahead.skip_to.Goals as goal

pub loop-blocks-init : goal.loop-blocks-init
loop-blocks-init c = towards_start c.args.self.words.now c.args.self.tells c.requires.0

pub loop-blocks-preserved : goal.loop-blocks-preserved
loop-blocks-preserved c =
    towards_on c.args.self.words.now c.loop-blocks.invariant c.loop-blocks-test.true c.next-blocks.ensures

pub invariant_of-result : goal.invariant_of-result
invariant_of-result c =
    record { tells = tells_there c.args.self.words.now c.loop-blocks.invariant c.requires.1 c.loop-blocks-test.false }
