-- `set_volume` keeps the contract of `V`: each way out by its law. Assumes nothing.
use Rattle.std.proofs.Common.{refl, rules}
use Rattle.logic.proofs.Results.{passed_on}
use Rattle.book.specs.Calls.{on, call_v, effect_on}
use Rattle.book.proofs.Answered.{made_beyond}
use Rattle.place.proofs.OpenClasses.{made_absent}
use Rattle.class_call.proofs.FigureWays.{volume_storable, volume_set}
use Rattle.class_call.proofs.set_volume.Goals as goal

pub returns-then-not-is_class_number-is_volume : goal.returns-then-not-is_class_number-is_volume
unfolding effect_on
returns-then-not-is_class_number-is_volume c = made_beyond (on _ (call_v _)) _ _ c.requires (search rules)

pub returns-in_err-class : goal.returns-in_err-class
unfolding effect_on
returns-in_err-class c =
    rw (passed_on _ c.from_residual.ensures.1)
    (made_absent _ (call_v _) _ _ c.requires _ refl (search rules) _ c.in_err-class.ensures)

pub store_figures-requires : goal.store_figures-requires
store_figures-requires c =
    volume_storable _ _ _ c.requires (search rules) _ _ c.in_ok-class.ensures _ c.with_volume.ensures

pub returns : goal.returns
returns c =
    volume_set _ _ _ c.requires (search rules) _ _ c.in_ok-class.ensures _ c.with_volume.ensures _
    c.store_figures.ensures
