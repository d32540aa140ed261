-- `review_steps`: as many steps are made as turns of the loop (`Going`). Assumes nothing.
use Rattle.review.proofs.StepsCounted.{Going}
use Rattle.review.proofs.steps.review_steps.Given as goal

abbrev pub invariant-loop : goal.invariant-loop
invariant-loop l = Going l.close l.n l.fn.words l.words l.k l.counter
