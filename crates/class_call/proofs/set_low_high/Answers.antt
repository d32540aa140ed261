-- `set_low_high` keeps the contract of `H`: each way out by its law. Assumes nothing.
use Rattle.std.proofs.Common.{refl, rules}
use Rattle.logic.proofs.Results.{passed_on}
use Rattle.book.specs.Calls.{on, call_h, effect_on}
use Rattle.book.proofs.Answered.{made_beyond}
use Rattle.place.proofs.OpenClasses.{made_absent}
use Rattle.class_call.proofs.FigureWays.{low_high_no_close, low_high_outside, low_high_storable, low_high_set}
use Rattle.class_call.proofs.set_low_high.Goals as goal

pub returns-then-not-is_class_number-is_price : goal.returns-then-not-is_class_number-is_price
unfolding effect_on
returns-then-not-is_class_number-is_price c = made_beyond (on _ (call_h _ _)) _ _ c.requires (search rules)

pub returns-in_err-class : goal.returns-in_err-class
unfolding effect_on
returns-in_err-class c =
    rw (passed_on _ c.from_residual.ensures.1)
    (made_absent _ (call_h _ _) _ _ c.requires _ refl (search rules) _ c.in_err-class.ensures)

pub returns-then-class-eq0 : goal.returns-then-class-eq0
returns-then-class-eq0 c =
    low_high_no_close _ _ _ _ c.requires (search rules) _ _ c.in_ok-class.ensures c.if-class-eq0.true

pub returns-then-class-low : goal.returns-then-class-low
returns-then-class-low c =
    low_high_outside _ _ _ _ c.requires (search rules) _ _ c.in_ok-class.ensures c.if-class-eq0.false
    c.if-class-low.true

pub store_figures-requires : goal.store_figures-requires
store_figures-requires c =
    low_high_storable _ _ _ _ c.requires (search rules) _ _ c.in_ok-class.ensures c.if-class-eq0.false
    c.if-class-low.false _ c.with_low_high.ensures

pub returns : goal.returns
returns c =
    low_high_set _ _ _ _ c.requires (search rules) _ _ c.in_ok-class.ensures c.if-class-eq0.false c.if-class-low.false _
    c.with_low_high.ensures _ c.store_figures.ensures
