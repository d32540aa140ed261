-- `delist_strike` is the call `X`: the limits, the class, the lookup and the marks of the strike's word refuse as the
-- model does, else the strike goes.
use Rattle.std.proofs.Common.{[], T, ◌≡◌, ◌≤◌, ◌<◌, ◌&&◌, not, length, refl, sym, ap, arith}
use mathlib.Core.Path.{ap₂}
use Rattle.book.specs.Layout.{facts_of}
use Rattle.book.specs.Calls.{on, call_x, effect_on}
use Rattle.book.specs.Facts.{is_class_open}
use Rattle.logic.proofs.Results.{passed_on}
use Rattle.book.proofs.Answered.{made_beyond}
use Rattle.place.specs.Lookups.{strike_search_of}
use Rattle.place.proofs.Heads.{book_long}
use Rattle.place.proofs.OpenClasses.{begun, made_absent}
use Rattle.strike_call.proofs.Standing.{place_within, delistable, delist_not_standing, delist_marked, delist_done}
use Rattle.strike_call.proofs.delist_strike.Goals as goal
use Rattle.strike_call.proofs.delist_strike.Goals.{After-look_up_strike-found, Else-not-found}

-- ---- what is known of a strike that was looked up

is_open : (c : After-look_up_strike-found) → T (is_class_open c.args.c (facts_of c.args.run.now).classes)
is_open c = (begun c.in_ok-class.ensures).is_open

found :
    (c : After-look_up_strike-found)
    → c.look_up_strike-found.result ≡ strike_search_of c.args.c c.args.m c.args.h (facts_of c.args.run.now)
found c =
    c.look_up_strike-found.ensures
    (begun c.in_ok-class.ensures)

within :
    (c : Else-not-found)
    → let at = c.look_up_strike-found.result.at in
    (1 ≤ at) × (at < length c.args.run.now)
within c =
    let begins = begun c.in_ok-class.ensures in
    place_within c.args.run.now c.requires c.args.c c.args.m c.args.h begins.is_open _
    (c.look_up_strike-found.ensures begins) c.if-not-found.false

-- ---- the goals

pub returns-then-not-is_place : goal.returns-then-not-is_place
unfolding effect_on
returns-then-not-is_place c =
    made_beyond (on c.args.c (call_x c.args.m c.args.h)) c.args.run.now [] c.requires
    (ap not (sym c.if-not-is_place.ensures))

pub returns-in_err-class : goal.returns-in_err-class
unfolding effect_on
returns-in_err-class c =
    rw (passed_on _ c.from_residual.ensures.1)
    (made_absent c.args.c (call_x c.args.m c.args.h) c.args.run.now [] c.requires _ refl
    (ap not (sym c.if-not-is_place.ensures)) _ c.in_err-class.ensures)

pub returns-then-not-found : goal.returns-then-not-found
returns-then-not-found c =
    let l = (goal.at.returns-then-not-found c).After-look_up_strike-found in
    delist_not_standing c.args.run.now c.requires c.args.c c.args.m c.args.h (is_open l) _ (found l)
    (ap not (sym c.if-not-is_place.ensures)) c.if-not-found.true

pub offset_bounds-run-at : goal.offset_bounds-run-at
offset_bounds-run-at c = omega (arith, within c, book_long c.args.run.now c.requires)

pub bounds-run-at : goal.bounds-run-at
bounds-run-at c = omega (arith, within (goal.at.bounds-run-at c).Else-not-found)

pub returns-then-is_marked : goal.returns-then-is_marked
returns-then-is_marked c =
    let l = (goal.at.returns-then-is_marked c).After-look_up_strike-found in
    delist_marked c.args.run.now c.requires c.args.c c.args.m c.args.h (is_open l) _ (found l)
    (ap not (sym c.if-not-is_place.ensures)) c.if-not-found.false (sym c.if-is_marked.ensures)

pub overflow_sub-at : goal.overflow_sub-at
overflow_sub-at c = (within (goal.at.overflow_sub-at c).Else-not-found).0

pub overflow_add-at : goal.overflow_add-at
overflow_add-at c =
    omega (arith, within (goal.at.overflow_add-at c).Else-not-found, book_long c.args.run.now c.requires)

pub delist-requires : goal.delist-requires
delist-requires c =
    let l = (goal.at.delist-requires c).After-look_up_strike-found in
    delistable c.args.run.now c.requires c.args.c c.args.m c.args.h (is_open l) _ (found l) c.if-not-found.false _
    (ap₂ (λ x y. not x && not y) c.is_strike_at.ensures c.is_strike_at-2.ensures)

pub returns : goal.returns
returns c =
    let l = (goal.at.returns c).After-look_up_strike-found in
    let at = delistable c.args.run.now c.requires c.args.c c.args.m c.args.h (is_open l) _ (found l)
    c.if-not-found.false _ (ap₂ (λ x y. not x && not y) c.is_strike_at.ensures c.is_strike_at-2.ensures) in
    delist_done c.args.run.now c.requires c.args.c c.args.m c.args.h (is_open l) _ (found l)
    (ap not (sym c.if-not-is_place.ensures)) c.if-not-found.false (sym c.if-is_marked.ensures) _ (c.delist.ensures at)
