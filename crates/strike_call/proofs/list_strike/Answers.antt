-- `list_strike` is the call `L`: refused as `J` refuses, then where the words needed exceed the run; else the strike is
-- put at its place.
use Rattle.std.proofs.Common.{[], ◌≡◌, ℕ, ◌≤◌, not, cond, refl, sym, ap, ◌∙◌, arith, rules, Ok}
use Rattle.book.specs.Layout.{facts_of}
use Rattle.book.specs.Calls.{on, call_l, effect_on}
use Rattle.book.specs.Views.{view_of}
use Rattle.logic.proofs.Results.{passed_on}
use Rattle.book.proofs.Answered.{made_beyond}
use Rattle.place.specs.declared.lookup.StrikeSearch.{StrikeSearch}
use Rattle.place.proofs.Heads.{book_room, book_long}
use Rattle.strike_call.specs.Judging.{Sought}
use Rattle.place.proofs.OpenClasses.{begun, made_absent}
use Rattle.strike_call.proofs.Judgements.{sought}
use Rattle.strike_call.proofs.ListedStrikes.{Permits, permits, insertable, list_refused, out_of_words, list_done}
use Rattle.strike_call.proofs.list_strike.Goals as goal
use Rattle.strike_call.proofs.list_strike.Goals.{After-look_up_strike-found, In-Ground, Joined-found, then-found, else-found}

-- ---- what is known where the strike was judged

abbrev asked :
    (c : After-look_up_strike-found)
    → Sought c.args.run.now c.in_ok-class.class.figures c.look_up_strike-found.result c.args.m c.args.h
asked c =
    let class = c.in_ok-class.ensures in
    sought c.args.c _ _ c.requires (ap not (sym c.if-not-is_place.ensures)) class
    (c.look_up_strike-found.ensures (begun class))

permit :
    (c : In-Ground)
    (x : Sought c.args.run.now c.in_ok-class.class.figures c.look_up_strike-found.result c.args.m c.args.h)
    → Permits c.args.m c.args.h (view_of x.number (facts_of c.args.run.now)) c.in-Ground.g
permit c x = permits c.args.m c.args.h _ _ (sym (c.in_ok-accepted.ensures x) ∙ ap Ok c.in-Ground.is)

-- the words that the strike needs
needed : (c : Joined-found) → c.if-found.needed ≡ cond {A = ℕ} c.look_up_strike-found.result.expiration 1 2
needed c =
    elim c.if-found.branch [
      | then-found x ↦ rw x.if-found.true x.needed-is
      | else-found x ↦ rw x.if-found.false x.needed-is
    ]

-- ---- the goals

pub returns-then-not-is_place : goal.returns-then-not-is_place
unfolding effect_on
returns-then-not-is_place c =
    made_beyond (on c.args.c (call_l c.args.m c.args.h)) c.args.run.now [] c.requires
    (ap not (sym c.if-not-is_place.ensures))

pub returns-in_err-class : goal.returns-in_err-class
unfolding effect_on
returns-in_err-class c =
    rw (passed_on _ c.from_residual.ensures.1)
    (made_absent c.args.c (call_l c.args.m c.args.h) c.args.run.now [] c.requires _ refl
    (ap not (sym c.if-not-is_place.ensures)) _ c.in_err-class.ensures)

pub judge_found-requires : goal.judge_found-requires
judge_found-requires c = asked (goal.at.judge_found-requires c).After-look_up_strike-found

pub returns-in_err-accepted : goal.returns-in_err-accepted
returns-in_err-accepted c =
    let x = asked (goal.at.returns-in_err-accepted c).After-look_up_strike-found in
    rw (passed_on _ c.from_residual-in_err-accepted.ensures.1)
    (list_refused c.args.run.now c.requires c.args.c c.args.m c.args.h (ap not (sym c.if-not-is_place.ensures)) _
    (c.in_err-accepted.ensures x) (λ g e. search rules))

pub returns-in_default : goal.returns-in_default
returns-in_default c =
    let x = asked (goal.at.returns-in_default c).After-look_up_strike-found in
    list_refused c.args.run.now c.requires c.args.c c.args.m c.args.h (ap not (sym c.if-not-is_place.ensures)) _
    (c.in_ok-accepted.ensures x) (λ g e. search rules)

pub overflow_add-used : goal.overflow_add-used
overflow_add-used c =
    let w = c.args.run.now in
    let few : c.if-found.needed ≤ 2 =
    elim c.if-found.branch [ then-found x ↦ omega arith | else-found x ↦ omega arith ] in
    omega (arith, book_room w c.requires, book_long w c.requires, c.used.ensures)

pub returns-then-run-used : goal.returns-then-run-used
returns-then-run-used c =
    let x = asked (goal.at.returns-then-run-used c).After-look_up_strike-found in
    out_of_words c.args.run.now c.requires c.args.c c.args.m c.args.h (ap not (sym c.if-not-is_place.ensures))
    x.is_open _ (permit (goal.at.returns-then-run-used c).In-Ground x) _
    (needed (goal.at.returns-then-run-used c).Joined-found
    ∙ ap (λ (r : StrikeSearch). cond {A = ℕ} r.expiration 1 2) x.place)
    (omega (arith, c.used.ensures))

pub insert_strike-requires : goal.insert_strike-requires
insert_strike-requires c =
    let x = asked (goal.at.insert_strike-requires c).After-look_up_strike-found in
    insertable x (permit (goal.at.insert_strike-requires c).In-Ground x)
    (omega (arith, c.used.ensures, needed (goal.at.insert_strike-requires c).Joined-found))

pub returns : goal.returns
returns c =
    let n = needed (goal.at.returns c).Joined-found in
    let x = asked (goal.at.returns c).After-look_up_strike-found in
    let p = permit (goal.at.returns c).In-Ground x in
    list_done c.args.run.now c.requires c.args.c c.args.m c.args.h (ap not (sym c.if-not-is_place.ensures))
    x.is_open _ p _ (n ∙ ap (λ (r : StrikeSearch). cond {A = ℕ} r.expiration 1 2) x.place)
    (omega (arith, c.used.ensures)) _ (c.insert_strike.ensures (insertable x p (omega (arith, c.used.ensures, n))))
