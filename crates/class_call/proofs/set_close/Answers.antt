-- `set_close` keeps the contract of `C`: each way out by its law. Assumes nothing.
use Rattle.std.proofs.Common.{refl, rules}
use Rattle.logic.proofs.Results.{passed_on}
use Rattle.book.specs.Calls.{on, call_c, effect_on}
use Rattle.book.proofs.Answered.{made_beyond}
use Rattle.place.proofs.OpenClasses.{made_absent}
use Rattle.class_call.proofs.FigureWays.{close_storable, close_set}
use Rattle.class_call.proofs.set_close.Goals as goal

pub returns-then-not-is_class_number-is_price : goal.returns-then-not-is_class_number-is_price
unfolding effect_on
returns-then-not-is_class_number-is_price c = made_beyond (on _ (call_c _)) _ _ c.requires (search rules)

pub returns-in_err-class : goal.returns-in_err-class
unfolding effect_on
returns-in_err-class c =
    rw (passed_on _ c.from_residual.ensures.1)
    (made_absent _ (call_c _) _ _ c.requires _ refl (search rules) _ c.in_err-class.ensures)

pub store_figures-requires : goal.store_figures-requires
store_figures-requires c =
    close_storable _ _ _ c.requires (search rules) _ _ c.in_ok-class.ensures _ c.with_close.ensures

pub returns : goal.returns
returns c =
    close_set _ _ _ c.requires (search rules) _ _ c.in_ok-class.ensures _ c.with_close.ensures _
    c.store_figures.ensures
