-- `last_strikes` gives the strikes that the words end with and the bounds of the marked ones: the loop's law of
-- looking, by what `is_of_kind` and `with_strike` ensure. Assumes nothing.
use Rattle.std.proofs.Common.{arith, rules, tests}
use Rattle.review.proofs.Marked.{look_more, look_stop}
use Rattle.review.proofs.marks.last_strikes.Goals as goal

pub loop-at-preserved : goal.loop-at-preserved
loop-at-preserved c =
    let step = c.in-Some.ensures.steps in (
      omega (arith, step.0, c.loop-at.invariant.0),
      look_more c.loop-at.invariant.1 _ _ step.1.0 (search (rules, tests)) c.with_strike-bounds.ensures,
    )

pub returns-then-not-is_of_kind : goal.returns-then-not-is_of_kind
returns-then-not-is_of_kind c =
    let step = c.in-Some.ensures.steps in
    look_stop c.loop-at.invariant.1 _ _ step.1.0 _ (omega (arith, step.1.1, c.loop-at.invariant.0))
    (search (rules, tests))
