-- `next_other`: where no bit is 1, the search goes on a block further, or there is no other; else the lowest is that of
-- the next other.
use Rattle.std.proofs.Common.{refl}
use Rattle.scan.proofs.Others.{searched_start, searched_on, searched_all, searched_found}
use Rattle.scan.proofs.ahead.Ahead.next_other.Goals as goal

pub loop-blocks-init : goal.loop-blocks-init
loop-blocks-init c = searched_start c.args.self.words.now c.args.self.tells c.requires

pub returns-then-words-blocks : goal.returns-then-words-blocks
returns-then-words-blocks c = (
  refl,
  searched_all c.args.self.words.now c.loop-blocks.invariant c.loop-blocks-test.true c.if-words-blocks.true,
)

pub loop-blocks-preserved : goal.loop-blocks-preserved
loop-blocks-preserved c =
    searched_on c.args.self.words.now c.loop-blocks.invariant c.loop-blocks-test.true c.if-words-blocks.false
    c.next-blocks.ensures

pub invariant_of-result-2 : goal.invariant_of-result-2
invariant_of-result-2 c =
    record { tells = (searched_found c.args.self.words.now c.loop-blocks.invariant c.loop-blocks-test.false).0 }

pub returns : goal.returns
returns c = (refl, (searched_found c.args.self.words.now c.loop-blocks.invariant c.loop-blocks-test.false).1)
