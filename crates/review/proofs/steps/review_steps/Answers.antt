-- `review_steps` takes n steps or all: the loop's law of going, by what `near_strikes`, `last_strikes` and
-- `review_step` ensure. Assumes nothing.
use Rattle.std.proofs.Common.{rules, arith}
use Rattle.review.proofs.StepsCounted.{going_start, going_asks, going_more, going_done}
use Rattle.review.proofs.steps.review_steps.Goals as goal

pub loop-init : goal.loop-init
loop-init c = going_start _ _ _ c.last_strikes-last.ensures _

pub review_step-k-requires : goal.review_step-k-requires
review_step-k-requires c =
    going_asks c.loop.invariant c.near_strikes-near.ensures c.requires (omega arith)

pub loop-preserved : goal.loop-preserved
loop-preserved c =
    going_more c.loop.invariant c.near_strikes-near.ensures (omega arith) (omega arith) (search rules)
    c.review_step-k.ensures

pub returns-after-loop : goal.returns-after-loop
returns-after-loop c = going_done c.loop.invariant (λ more left. omega arith)

pub returns-then-k-eq0 : goal.returns-then-k-eq0
returns-then-k-eq0 c = going_done c.loop.invariant (λ more left. omega arith)
