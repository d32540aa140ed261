-- `review_class` keeps the contract of `R`: each way out by its law. Assumes nothing.
use Rattle.std.proofs.Common.{◌≡◌, ◌+◌, false, not, refl, arith, rules}
use Rattle.word.specs.Limits.{is_class_number}
use Rattle.word.specs.Figures.{figures_length}
use Rattle.logic.proofs.Results.{passed_on}
use Rattle.book.specs.Calls.{on, call_r, effect_on}
use Rattle.book.proofs.Answered.{made_beyond}
use Rattle.place.proofs.OpenClasses.{made_absent}
use Rattle.place.proofs.Found.{class_room}
use Rattle.place.proofs.Heads.{book_room, book_long}
use Rattle.review.specs.ReviewsAsked.{Reviewable}
use Rattle.class_call.proofs.Ways.{review_no_close, class_reviewable, review_count, review_made}
use Rattle.class_call.proofs.review_class.Goals as goal
use Rattle.class_call.proofs.review_class.Goals.{After-next_class-to}

within : (c : After-next_class-to) → not (is_class_number c.args.c) ≡ false
within c = search rules

-- what is to be reviewed: its series, up to the next class
abbrev reviewable :
    (c : After-next_class-to)
    → Reviewable c.args.run.now (c.in_ok-class.class.at + figures_length) c.next_class-to.result
    c.in_ok-class.class.figures.close
reviewable c = class_reviewable _ _ c.requires (within c) _ _ c.in_ok-class.ensures _ c.next_class-to.ensures.0

pub returns-then-not-is_class_number : goal.returns-then-not-is_class_number
unfolding effect_on
returns-then-not-is_class_number c = made_beyond (on _ call_r) _ _ c.requires (search rules)

pub returns-in_err-class : goal.returns-in_err-class
unfolding effect_on
returns-in_err-class c =
    rw (passed_on _ c.from_residual.ensures.1)
    (made_absent _ call_r _ _ c.requires _ refl (search rules) _ c.in_err-class.ensures)

pub returns-then-class-eq0 : goal.returns-then-class-eq0
returns-then-class-eq0 c =
    review_no_close _ _ c.requires (search rules) _ _ c.in_ok-class.ensures c.if-class-eq0.true

pub overflow_add-from : goal.overflow_add-from
overflow_add-from c =
    let w = c.args.run.now in
    let class = c.in_ok-class.ensures in
    omega (
      arith,
      class.place,
      class_room w c.requires c.args.c class.is_open,
      book_room w c.requires,
      book_long w c.requires,
    )

pub next_class-to-requires : goal.next_class-to-requires
next_class-to-requires c =
    let class = c.in_ok-class.ensures in
    record {
      book = c.requires;
      after = omega arith;
      within = omega (arith, class.place, class_room c.args.run.now c.requires c.args.c class.is_open);
    }

pub review_all-requires : goal.review_all-requires
review_all-requires c = reviewable (goal.at.review_all-requires c).After-next_class-to

pub overflow_cast-result : goal.overflow_cast-result
overflow_cast-result c =
    let done = c.review_all.ensures (reviewable (goal.at.overflow_cast-result c).After-next_class-to) in
    omega (arith, review_count _ _ c.requires (search rules) _ _ c.in_ok-class.ensures _ done.0)

pub returns : goal.returns
returns c =
    review_made _ _ c.requires (search rules) _ _ c.in_ok-class.ensures _ _
    (c.review_all.ensures (reviewable (goal.at.returns c).After-next_class-to)) c.if-class-eq0.false
