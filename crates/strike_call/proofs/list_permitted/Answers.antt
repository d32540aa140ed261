-- `list_permitted` is the call `A`: each test is the condition of the facts in its turn, and the strikes are listed
-- beside the words of the expiration's strikes.
use Rattle.std.proofs.Common.{◌≡◌, ◌≤◌, Bool, true, false, not, ◌&&◌, length, refl, sym, ap, ◌∙◌, arith}
use mathlib.Core.Path.{ap₂}
use Rattle.word.specs.Limits.{is_month, is_class_number}
use Rattle.book.specs.Layout.{facts_of}
use Rattle.book.specs.Calls.{on, call_a, effect_on}
use Rattle.book.proofs.Answered.{made_beyond}
use Rattle.logic.proofs.Results.{passed_on}
use Rattle.place.proofs.OpenClasses.{begun, made_absent}
use Rattle.place.specs.Lookups.{expiration_of}
use Rattle.place.proofs.Heads.{book_long}
use Rattle.strike_call.proofs.Permitting.{part_within, permitting_outside, permitting_no_close, permitting_listable, permitting_filled}
use Rattle.strike_call.proofs.list_permitted.Goals as goal
use Rattle.strike_call.proofs.list_permitted.Goals.{Else-not-is_class_number-is_month, After-look_up_expiration-found}

-- the limits, as the code joins them
joined : {a b x y : Bool} → a ≡ x → b ≡ y → (z : Bool) → (a && b) ≡ z → not (x && y) ≡ not z
joined e d z k = ap not (sym (ap₂ ◌&&◌ e d) ∙ k)

limits : (c : Else-not-is_class_number-is_month) → not (is_class_number c.args.c && is_month c.args.m) ≡ false
limits c = joined c.is_class_number.ensures c.is_month.ensures true c.if-not-is_class_number-is_month.false

found :
    (c : After-look_up_expiration-found)
    → c.look_up_expiration-found.result ≡ expiration_of c.args.c c.args.m (facts_of c.args.run.now)
found c =
    c.look_up_expiration-found.ensures
    (begun c.in_ok-class.ensures)

-- the words of the strikes are a part of the run
within :
    (c : After-look_up_expiration-found)
    → let r = c.look_up_expiration-found.result in
    (r.from ≤ r.to) × (r.to ≤ length c.args.run.now)
within c =
    part_within c.args.run.now c.requires c.args.c c.args.m c.in_ok-class.ensures.is_open _ (found c)

pub returns-then-not-is_class_number-is_month : goal.returns-then-not-is_class_number-is_month
unfolding effect_on
returns-then-not-is_class_number-is_month c =
    made_beyond (on c.args.c (call_a c.args.m)) c.args.run.now c.args.second.now c.requires
    (joined c.is_class_number.ensures c.is_month.ensures false c.if-not-is_class_number-is_month.true)

pub returns-in_err-class : goal.returns-in_err-class
unfolding effect_on
returns-in_err-class c =
    rw (passed_on _ c.from_residual.ensures.1)
    (made_absent c.args.c (call_a c.args.m) c.args.run.now c.args.second.now c.requires _ refl
    (limits (goal.at.returns-in_err-class c).Else-not-is_class_number-is_month) _ c.in_err-class.ensures)

pub returns-then-is_outside : goal.returns-then-is_outside
returns-then-is_outside c =
    let o = (goal.at.returns-then-is_outside c).Else-not-is_class_number-is_month in
    permitting_outside c.args.run.now c.args.second.now c.requires c.args.c c.args.m (limits o)
    c.in_ok-class.ensures.is_open _ c.in_ok-class.ensures.figures _ c.current.ensures (sym c.if-is_outside.ensures)

pub returns-then-class-eq0 : goal.returns-then-class-eq0
returns-then-class-eq0 c =
    let o = (goal.at.returns-then-class-eq0 c).Else-not-is_class_number-is_month in
    permitting_no_close c.args.run.now c.args.second.now c.requires c.args.c c.args.m (limits o)
    c.in_ok-class.ensures.is_open _ c.in_ok-class.ensures.figures _ c.current.ensures (sym c.if-is_outside.ensures) c.if-class-eq0.true

pub offset_bounds-words-found : goal.offset_bounds-words-found
offset_bounds-words-found c =
    let p = within (goal.at.offset_bounds-words-found c).After-look_up_expiration-found in
    omega (arith, p, book_long c.args.run.now c.requires)

pub slice_bounds-list_permitted-count : goal.slice_bounds-list_permitted-count
slice_bounds-list_permitted-count c =
    (within (goal.at.slice_bounds-list_permitted-count c).After-look_up_expiration-found).0

pub slice_bounds-list_permitted-start : goal.slice_bounds-list_permitted-start
slice_bounds-list_permitted-start c =
    (within (goal.at.slice_bounds-list_permitted-start c).After-look_up_expiration-found).0

pub slice_bounds-list_permitted-end : goal.slice_bounds-list_permitted-end
slice_bounds-list_permitted-end c =
    (within (goal.at.slice_bounds-list_permitted-end c).After-look_up_expiration-found).1

pub list_permitted-requires : goal.list_permitted-requires
list_permitted-requires c =
    let o = (goal.at.list_permitted-requires c).Else-not-is_class_number-is_month in
    permitting_listable c.args.run.now c.args.second.now c.requires c.args.c c.args.m (limits o)
    c.in_ok-class.ensures.is_open _ c.in_ok-class.ensures.figures _ c.current.ensures (sym c.if-is_outside.ensures) _
    (found (goal.at.list_permitted-requires c).After-look_up_expiration-found)

pub returns : goal.returns
returns c =
    let o = (goal.at.returns c).Else-not-is_class_number-is_month in
    permitting_filled c.args.run.now c.args.second.now c.requires c.args.c c.args.m (limits o)
    c.in_ok-class.ensures.is_open _ c.in_ok-class.ensures.figures _ c.current.ensures (sym c.if-is_outside.ensures) _
    (found (goal.at.returns c).After-look_up_expiration-found) c.if-class-eq0.false c.list_permitted.ensures
