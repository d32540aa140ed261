-- `review_highest` lays out the class after n steps: it takes them, closes up the free words, writes the head and then
-- the counters. By the law of steps on the run of a book and that of the strikes removed. Assumes nothing.
use Rattle.std.proofs.Common.{◌≡◌, ◌+◌, ◌-◌, ◌≤◌, length, ◌∙◌, arith}
use Rattle.book.specs.Layout.{facts_of}
use Rattle.book.specs.Uncounted.{uncounted}
use Rattle.book.specs.Views.{class}
use Rattle.book.specs.Changes.{update}
use Rattle.review.specs.ReviewSteps.{after_steps, gone_count}
use Rattle.review.specs.ReviewsAsked.{Reviewable}
use Rattle.review.proofs.Uncounting.{removed_among, recounted}
use Rattle.review.proofs.ReviewedRuns.{Numbers, numbers, asks, reached_numbers, removed_is, highest_reviewed}
use Rattle.review.proofs.review_highest.Goals as goal
use Rattle.review.proofs.review_highest.Goals.{After-review_steps-k, After-write}

-- the numbers once the steps are made
reckoned :
    (c : After-review_steps-k) →
    let k = c.review_steps-k.result in
    Numbers c.args.from c.args.to c.used-end.result c.current-month.result (length c.args.run.now)
    × ((k.read + k.emptied ≤ k.written) × (k.written ≤ c.args.to - c.args.from))
reckoned c = (
  numbers c.requires _ _ c.used-end.ensures c.current-month.ensures,
  reached_numbers c.requires c.review_steps-k.ensures,
)

-- the run once the head is written: the class's words after the steps, and the counters of before
laid :
    (c : After-write) →
    let a = c.args in
    let f = facts_of a.run.now in
    (x : Reviewable a.run.now a.from a.to a.close)
    → c.write.new.run ≡ uncounted (length a.run.now) f (update (after_steps a.n (class f x.number)) f)
laid c x =
    c.write.ensures
    ∙ highest_reviewed x c.review_steps-k.ensures _ _ c.used-end.ensures c.current-month.ensures _ c.close_gap.ensures

-- how many are removed
gone :
    (c : After-write) →
    let a = c.args in
    let k = c.review_steps-k.result in
    (x : Reviewable a.run.now a.from a.to a.close)
    → k.written - k.read - k.emptied ≡ gone_count a.n (class (facts_of a.run.now) x.number)
gone c x = removed_is x c.review_steps-k.ensures

pub offset_bounds-run-from : goal.offset_bounds-run-from
offset_bounds-run-from c = omega (arith, numbers c.requires _ _ c.used-end.ensures c.current-month.ensures)

pub slice_bounds-review_steps-end : goal.slice_bounds-review_steps-end
slice_bounds-review_steps-end c = omega (arith, numbers c.requires _ _ c.used-end.ensures c.current-month.ensures)

pub review_steps-k-requires : goal.review_steps-k-requires
review_steps-k-requires c = asks c.requires

pub overflow_add-at : goal.overflow_add-at
overflow_add-at c = omega (arith, reckoned (goal.at.overflow_add-at c).After-review_steps-k)

pub overflow_sub-free : goal.overflow_sub-free
overflow_sub-free c = omega (arith, reckoned (goal.at.overflow_sub-free c).After-review_steps-k)

pub offset_bounds-run-at : goal.offset_bounds-run-at
offset_bounds-run-at c = omega (arith, reckoned (goal.at.offset_bounds-run-at c).After-review_steps-k)

pub slice_bounds-close_gap-count : goal.slice_bounds-close_gap-count
slice_bounds-close_gap-count c = omega (arith, reckoned (goal.at.slice_bounds-close_gap-count c).After-review_steps-k)

pub slice_bounds-close_gap-start : goal.slice_bounds-close_gap-start
slice_bounds-close_gap-start c = omega (arith, reckoned (goal.at.slice_bounds-close_gap-start c).After-review_steps-k)

pub slice_bounds-close_gap-end : goal.slice_bounds-close_gap-end
slice_bounds-close_gap-end c = omega (arith, reckoned (goal.at.slice_bounds-close_gap-end c).After-review_steps-k)

pub close_gap-requires : goal.close_gap-requires
close_gap-requires c = omega (arith, reckoned (goal.at.close_gap-requires c).After-review_steps-k)

pub write-requires : goal.write-requires
write-requires c = omega (arith, reckoned (goal.at.write-requires c).After-review_steps-k)

pub overflow_sub-removed : goal.overflow_sub-removed
overflow_sub-removed c = omega (arith, reckoned (goal.at.overflow_sub-removed c).After-review_steps-k)

pub overflow_cast-dollars : goal.overflow_cast-dollars
overflow_cast-dollars c = omega (arith, reckoned (goal.at.overflow_cast-dollars c).After-review_steps-k)

pub take_strikes-requires : goal.take_strikes-requires
take_strikes-requires c =
    let p = goal.at.take_strikes-requires c in
    let w = p.After-write in
    let x = c.requires in
    (omega (arith, reckoned p.After-review_steps-k), removed_among x _ (laid w x) (gone w x))

pub returns : goal.returns
returns c = λ x.
    let w = (goal.at.returns c).After-write in
    (gone w x, c.take_strikes.ensures ∙ recounted x _ (laid w x) (gone w x))
