-- `judge_strike` is the call `J`: the limits and the class refuse first, and a strike that was looked up is judged. It
-- changes nothing.
use Rattle.std.proofs.Common.{[], not, refl, sym, ap}
use Rattle.book.specs.Calls.{on, call_j, effect_on}
use Rattle.logic.proofs.Results.{passed_on}
use Rattle.book.proofs.Answered.{made_beyond}
use Rattle.place.proofs.OpenClasses.{begun, made_absent}
use Rattle.strike_call.proofs.Judgements.{sought}
use Rattle.strike_call.proofs.ListedStrikes.{judge_done}
use Rattle.strike_call.proofs.judge_strike.Goals as goal

pub returns-then-not-is_place : goal.returns-then-not-is_place
unfolding effect_on
returns-then-not-is_place c =
    made_beyond (on c.args.c (call_j c.args.m c.args.h)) c.args.run.now [] c.requires
    (ap not (sym c.if-not-is_place.ensures))

pub returns-in_err-class : goal.returns-in_err-class
unfolding effect_on
returns-in_err-class c =
    rw (passed_on _ c.from_residual.ensures.1)
    (made_absent c.args.c (call_j c.args.m c.args.h) c.args.run.now [] c.requires _ refl
    (ap not (sym c.if-not-is_place.ensures)) _ c.in_err-class.ensures)

pub judge_found-requires : goal.judge_found-requires
judge_found-requires c =
    let class = c.in_ok-class.ensures in
    sought c.args.c _ _ c.requires (ap not (sym c.if-not-is_place.ensures)) class
    (c.look_up_strike-found.ensures (begun class))

pub returns : goal.returns
returns c =
    let w = c.args.run.now in
    let limits = ap not (sym c.if-not-is_place.ensures) in
    let class = c.in_ok-class.ensures in
    judge_done w c.requires c.args.c c.args.m c.args.h limits _
    (c.judge_found.ensures (sought c.args.c _ _ c.requires limits class (c.look_up_strike-found.ensures (begun class))))
