-- `review_step` takes one step: by the law of a step inside an expiration or at its lowest strike, from what its
-- callees ensure. Assumes nothing.
use Rattle.std.proofs.Common.{◌≡◌, ℕ, ◌+◌, ◌≤◌, Bool, true, false, cond, not, ltb, refl, sym, ap, ◌∙◌, arith}
use Rattle.std.specs.Int.{from_bool}
use Rattle.std.proofs.Math.Seq.{length-take-le}
use Rattle.review.proofs.StepTaken.{one_or_none}
use Rattle.review.proofs.StepsCounted.{step_within, stepped_inside, stepped_lowest}
use Rattle.review.proofs.steps.review_step.Goals as goal

-- what is counted of an expiration
one_unless : (kept : Bool) → from_bool (not kept) ≡ cond {A = ℕ} kept 0 1
one_unless true = refl
one_unless false = refl

at_most_one : (kept : Bool) → from_bool (not kept) ≤ 1
at_most_one true = omega arith
at_most_one false = omega arith

pub overflow_sub-at : goal.overflow_sub-at
overflow_sub-at c = omega (arith, step_within c.requires)

pub offset_bounds-words-at : goal.offset_bounds-words-at
offset_bounds-words-at c = omega (arith, step_within c.requires)

pub bounds-words-at : goal.bounds-words-at
bounds-words-at c = omega (arith, step_within c.requires)

pub lift-written-requires : goal.lift-written-requires
lift-written-requires c = omega (arith, step_within c.requires)

pub overflow_sub-start : goal.overflow_sub-start
overflow_sub-start c = omega (arith, step_within c.requires)

pub lift-all-requires : goal.lift-all-requires
lift-all-requires c = omega (arith, step_within c.requires, one_or_none c.does_stay-stays.result)

pub slice_bounds-last_strikes-end : goal.slice_bounds-last_strikes-end
slice_bounds-last_strikes-end c = omega (arith, step_within c.requires)

pub slice_bounds-last_strikes-end-then-at-k : goal.slice_bounds-last_strikes-end-then-at-k
slice_bounds-last_strikes-end-then-at-k c = sym (length-take-le _ _ (omega (arith, step_within c.requires)))

pub overflow_add-result : goal.overflow_add-result
overflow_add-result c =
    omega (arith, step_within c.requires, at_most_one (ltb c.lift-written.result c.args.k.top), c.from.ensures)

pub returns-then-at-k : goal.returns-then-at-k
returns-then-at-k c = λ x.
    stepped_lowest x _ c.does_stay-stays.ensures _ c.lift-written.ensures.0 _ c.lift-written.ensures.1
    c.if-at-k.true _ c.lift-all.ensures.0 _ c.lift-all.ensures.1 _ c.last_strikes.ensures _
    (ap (λ (n : ℕ). c.args.k.emptied + n) (c.from.ensures ∙ one_unless (ltb c.lift-written.result c.args.k.top)))

pub returns : goal.returns
returns c = λ x.
    stepped_inside x _ c.does_stay-stays.ensures _ c.lift-written.ensures.0 _ c.lift-written.ensures.1
    c.if-at-k.false
