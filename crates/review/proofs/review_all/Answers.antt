-- `review_all` takes all steps of the review: there are no more than the class's series have words. Assumes nothing.
use Rattle.review.proofs.ReviewedRuns.{all_steps}
use Rattle.review.proofs.review_all.Goals as goal

pub returns : goal.returns
returns c = λ x. all_steps x _ _ (c.review_highest.ensures x)
