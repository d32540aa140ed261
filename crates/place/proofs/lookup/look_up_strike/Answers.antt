-- `look_up_strike` finds a strike: where its expiration has strikes, the first word of them that is this strike, a
-- higher one or none. Assumes nothing.
use Rattle.std.proofs.Common.{◌^◌, ◌<◌, leb→le, arith, rules, tests}
use Rattle.word.specs.Kinds.{kind_field, strike_kind}
use Rattle.word.specs.Limits.{is_strike, last_month, highest_strike}
use Rattle.word.proofs.RangeTests.{between_high}
use Rattle.logic.proofs.Tests.{T_true}
use Rattle.place.specs.Search.{is_holding}
use Rattle.place.proofs.LookedUp.{used_test, no_strike, its_strike}
use Rattle.place.proofs.lookup.look_up_strike.Goals as goal

pub returns-in-Err : goal.returns-in-Err
returns-in-Err c =
    let r = c.requires.0 in
    λ x.
    let e = c.in-Err.ensures.place x in
    no_strike _ r.book _ x.is_open _ (leb→le c.args.m last_month r.month) e.0 _ e.1 c.args.h

pub returns-in-Ok : goal.returns-in-Ok
returns-in-Ok c =
    let a = c.args in
    let r = c.requires.0 in
    let small : a.h < 2 ^ kind_field.low =
    omega (arith, between_high 1 highest_strike a.h (T_true (is_strike a.h) c.requires.1)) in
    let standing =
    used_test a.run.now _ _ _ _ (is_holding strike_kind a.h) c.used_word.ensures c.is_some_and-standing.ensures
    (λ w k. search (rules, tests)) in
    λ x.
    let e = c.in-Ok.ensures.place x in
    its_strike _ r.book _ x.is_open _ (leb→le a.m last_month r.month) e.0 _ e.1 a.h _ _ small
    (rw c.used_from.ensures.words at c.first.ensures.0) standing
