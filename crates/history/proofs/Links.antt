-- What the checker hands a caller of `fresh` and of each call is the `Begun` or the `Made` that `Whole` and `Turns` are
-- built from: the same type, so that nothing is left to show. Assumes nothing.
use mathlib.Core.List.{[]}
use Rattle.book.specs.Calls.{call_m, on, call_o, call_c, call_h, call_v, call_d, call_l, call_j, call_x, call_i, call_r, call_a}
use Rattle.book.specs.Made.{Made, Begun}
use Rattle.scan.proofs.fresh.Reads as fresh-reads
use Rattle.call.proofs.set_month.Reads as set-month-reads
use Rattle.call.proofs.open_class.Reads as open-class-reads
use Rattle.call.proofs.set_close.Reads as set-close-reads
use Rattle.call.proofs.set_low_high.Reads as set-low-high-reads
use Rattle.call.proofs.set_volume.Reads as set-volume-reads
use Rattle.call.proofs.designate.Reads as designate-reads
use Rattle.call.proofs.list_strike.Reads as list-strike-reads
use Rattle.call.proofs.judge_strike.Reads as judge-strike-reads
use Rattle.call.proofs.delist_strike.Reads as delist-strike-reads
use Rattle.call.proofs.mark_strike.Reads as mark-strike-reads
use Rattle.call.proofs.review_class.Reads as review-class-reads
use Rattle.call.proofs.list_permitted.Reads as list-permitted-reads

pub fresh_learnt :
    (κs : _) (a : _) (r : _) (x : _) → fresh-reads.Learnt κs a r x → Begun a.0.now r x.0.now
fresh_learnt κs a r x p = p

pub set_month_learnt :
    (κs : _) (a : _) (r : _) (x : _) → set-month-reads.Learnt κs a r x
    → Made (call_m a.1.0) a.0.now [] r x.0.now []
set_month_learnt κs a r x p = p

pub open_class_learnt :
    (κs : _) (a : _) (r : _) (x : _) → open-class-reads.Learnt κs a r x
    → Made (on a.1.0 call_o) a.0.now [] r x.0.now []
open_class_learnt κs a r x p = p

pub set_close_learnt :
    (κs : _) (a : _) (r : _) (x : _) → set-close-reads.Learnt κs a r x
    → Made (on a.1.0 (call_c a.1.1.0)) a.0.now [] r x.0.now []
set_close_learnt κs a r x p = p

pub set_low_high_learnt :
    (κs : _) (a : _) (r : _) (x : _) → set-low-high-reads.Learnt κs a r x
    → Made (on a.1.0 (call_h a.1.1.0 a.1.1.1.0)) a.0.now [] r x.0.now []
set_low_high_learnt κs a r x p = p

pub set_volume_learnt :
    (κs : _) (a : _) (r : _) (x : _) → set-volume-reads.Learnt κs a r x
    → Made (on a.1.0 (call_v a.1.1.0)) a.0.now [] r x.0.now []
set_volume_learnt κs a r x p = p

pub designate_learnt :
    (κs : _) (a : _) (r : _) (x : _) → designate-reads.Learnt κs a r x
    → Made (on a.1.0 (call_d a.1.1.0 a.1.1.1.0)) a.0.now [] r x.0.now []
designate_learnt κs a r x p = p

pub list_strike_learnt :
    (κs : _) (a : _) (r : _) (x : _) → list-strike-reads.Learnt κs a r x
    → Made (on a.1.0 (call_l a.1.1.0 a.1.1.1.0)) a.0.now [] r x.0.now []
list_strike_learnt κs a r x p = p

pub judge_strike_learnt :
    (κs : _) (a : _) (r : _) (x : _) → judge-strike-reads.Learnt κs a r x
    → Made (on a.1.0 (call_j a.1.1.0 a.1.1.1.0)) a.0.now [] r a.0.now []
judge_strike_learnt κs a r x p = p

pub delist_strike_learnt :
    (κs : _) (a : _) (r : _) (x : _) → delist-strike-reads.Learnt κs a r x
    → Made (on a.1.0 (call_x a.1.1.0 a.1.1.1.0)) a.0.now [] r x.0.now []
delist_strike_learnt κs a r x p = p

pub mark_strike_learnt :
    (κs : _) (a : _) (r : _) (x : _) → mark-strike-reads.Learnt κs a r x
    → Made (on a.1.0 (call_i a.1.1.0 a.1.1.1.0 a.1.1.1.1.0 a.1.1.1.1.1.0))
    a.0.now [] r x.0.now []
mark_strike_learnt κs a r x p = p

pub review_class_learnt :
    (κs : _) (a : _) (r : _) (x : _) → review-class-reads.Learnt κs a r x
    → Made (on a.1.0 call_r) a.0.now [] r x.0.now []
review_class_learnt κs a r x p = p

pub list_permitted_learnt :
    (κs : _) (a : _) (r : _) (x : _) → list-permitted-reads.Learnt κs a r x
    → Made (on a.1.1.0 (call_a a.1.1.1.0)) a.0.now a.1.0.now r a.0.now x.1.0.now
list_permitted_learnt κs a r x p = p
