-- `mark_strike` is the call `I`: the limits, the class and the lookup refuse as the model does, and the marks are
-- stored where the strike stands.
use Rattle.std.proofs.Common.{[], T, Bool, true, false, ◌≡◌, ◌&&◌, not, refl, sym, ap, ◌∙◌}
use mathlib.Core.Path.{ap₂}
use Rattle.word.specs.Limits.{is_mark}
use Rattle.book.specs.Facts.{is_class_open}
use Rattle.book.specs.Layout.{facts_of}
use Rattle.book.specs.Calls.{on, call_i, is_place, effect_on}
use Rattle.logic.proofs.Tests.{ands, passed}
use Rattle.logic.proofs.Results.{passed_on}
use Rattle.book.proofs.Answered.{made_beyond}
use Rattle.place.specs.Lookups.{strike_search_of}
use Rattle.place.proofs.OpenClasses.{begun, made_absent}
use Rattle.strike_call.proofs.Standing.{stands, mark_not_standing, mark_done}
use Rattle.strike_call.proofs.mark_strike.Goals as goal
use Rattle.strike_call.proofs.mark_strike.Goals.{Else-not-is_place-is_mark, After-look_up_strike-found}

-- ---- what is known

-- the limits, as the code joins them
joined :
    {a b d x y z : Bool} → a ≡ x → b ≡ y → d ≡ z → (t : Bool) → (a && (b && d)) ≡ t → not (x && (y && z)) ≡ not t
joined e f g t k = ap not (sym (ap₂ ◌&&◌ e (ap₂ ◌&&◌ f g)) ∙ k)

limits :
    (c : Else-not-is_place-is_mark)
    → not (is_place c.args.c c.args.m c.args.h && (is_mark c.args.marks.put && is_mark c.args.marks.call)) ≡ false
limits c = joined c.is_place.ensures c.is_mark.ensures c.is_mark-2.ensures true c.if-not-is_place-is_mark.false

is_open : (c : After-look_up_strike-found) → T (is_class_open c.args.c (facts_of c.args.run.now).classes)
is_open c = (begun c.in_ok-class.ensures).is_open

found :
    (c : After-look_up_strike-found)
    → c.look_up_strike-found.result ≡ strike_search_of c.args.c c.args.m c.args.h (facts_of c.args.run.now)
found c =
    c.look_up_strike-found.ensures
    (begun c.in_ok-class.ensures)

-- ---- the goals

pub returns-then-not-is_place-is_mark : goal.returns-then-not-is_place-is_mark
unfolding effect_on
returns-then-not-is_place-is_mark c =
    made_beyond (on c.args.c (call_i c.args.m c.args.h c.args.marks.put c.args.marks.call)) c.args.run.now [] c.requires
    (joined c.is_place.ensures c.is_mark.ensures c.is_mark-2.ensures false c.if-not-is_place-is_mark.true)

pub returns-in_err-class : goal.returns-in_err-class
unfolding effect_on
returns-in_err-class c =
    rw (passed_on _ c.from_residual.ensures.1)
    (made_absent c.args.c (call_i c.args.m c.args.h c.args.marks.put c.args.marks.call) c.args.run.now [] c.requires _ refl
    (limits (goal.at.returns-in_err-class c).Else-not-is_place-is_mark)
    _ c.in_err-class.ensures)

pub returns-then-not-found : goal.returns-then-not-found
returns-then-not-found c =
    let l = (goal.at.returns-then-not-found c).After-look_up_strike-found in
    mark_not_standing c.args.run.now c.requires c.args.c c.args.m c.args.h (is_open l) _ (found l) c.args.marks.put
    c.args.marks.call (limits (goal.at.returns-then-not-found c).Else-not-is_place-is_mark) c.if-not-found.true

pub store_marks-requires : goal.store_marks-requires
store_marks-requires c =
    let l = (goal.at.store_marks-requires c).After-look_up_strike-found in
    let numbers = passed _ (limits (goal.at.store_marks-requires c).Else-not-is_place-is_mark) in
    record {
      book = c.requires;
      put = search ands;
      call = search ands;
      strike = stands c.args.run.now c.requires c.args.c c.args.m c.args.h (is_open l) _ (found l) c.if-not-found.false;
    }

pub returns : goal.returns
returns c =
    let l = (goal.at.returns c).After-look_up_strike-found in
    mark_done c.args.run.now c.requires c.args.c c.args.m c.args.h (is_open l) _ (found l) c.args.marks.put
    c.args.marks.call (limits (goal.at.returns c).Else-not-is_place-is_mark) c.if-not-found.false _
    (c.store_marks.ensures
    (stands c.args.run.now c.requires c.args.c c.args.m c.args.h (is_open l) _ (found l) c.if-not-found.false))
