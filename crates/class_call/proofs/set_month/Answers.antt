-- `set_month` keeps the contract of `M`: each way out by its law. Assumes nothing.
use Rattle.std.proofs.Common.{rules}
use Rattle.book.specs.Calls.{call_m}
use Rattle.book.proofs.Answered.{made_beyond}
use Rattle.class_call.proofs.Ways.{month_outside, month_set_lem, month_kept}
use Rattle.class_call.proofs.set_month.Goals as goal

pub returns-then-not-is_month : goal.returns-then-not-is_month
returns-then-not-is_month c = made_beyond (call_m _) _ _ c.requires (search rules)

pub returns-then-m-current : goal.returns-then-m-current
returns-then-m-current c = month_outside _ _ c.requires (search rules) (rw c.current.ensures at c.if-m-current.true)

pub returns-then-m-current-2 : goal.returns-then-m-current-2
returns-then-m-current-2 c =
    month_kept _ _ c.requires (search rules) (rw c.current-2.ensures at c.if-m-current-2.true)

pub returns : goal.returns
returns c =
    month_set_lem _ _ c.requires (search rules) _ (rw c.current.ensures at c.if-m-current.false) c.expire.ensures
