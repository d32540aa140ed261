-- `expirations_end` finds the end of a class's series: each way through the loop is one law of the loop.
use Rattle.std.proofs.Common.{◌≡◌, ◌+◌, suc, T, drop, get_or, ◌∙◌, sym, rules, arith, eqb-true}
use borrow.Author.Tests.{eqb-false}
use Rattle.word.specs.Kinds.{kind_of, expiration_kind}
use Rattle.scan.specs.NextStrikes.{next_length}
use Rattle.scan.proofs.ExpirationWords.{is_between, between_kind}
use Rattle.logic.proofs.Tests.{true_T}
use Rattle.scan.proofs.ExpirationLoop.{expirations_compared, expirations_stop, expirations_wrong, expirations_empty, expirations_outside, expirations_more}
use Rattle.scan.proofs.expirations_end.Goals as goal
use Rattle.scan.proofs.expirations_end.Goals.{After-next_other-ahead}

-- the word at i passed the comparison, so it is an expiration word
passed :
    (c : After-next_other-ahead)
    → T (is_between c.args.current c.loop-ahead.invariant.0.next (get_or c.args.from.words.now c.loop-ahead.ahead.at 0))
passed c =
    true_T _
    (expirations_compared c.loop-ahead.invariant.0 c.expiration_word-latest.result c.contains.result
    (rw (c.expiration_word-latest.ensures, c.latest_month.ensures)) (search rules)
    ∙ c.if-not-contains.false)

kind_five :
    (c : After-next_other-ahead)
    → kind_of (get_or c.args.from.words.now c.loop-ahead.ahead.at 0) ≡ expiration_kind.number
kind_five c =
    between_kind c.args.current c.loop-ahead.invariant.0.next (get_or c.args.from.words.now c.loop-ahead.ahead.at 0)
    (passed c)

-- and its strikes end at the next other
ends :
    (c : After-next_other-ahead)
    → let s = c.args.from.words.now in
    let i = c.loop-ahead.ahead.at in
    c.next_other-ahead.result.at ≡ suc i + next_length (get_or s i 0) (drop (suc i) s)
ends c = rw c.loop-ahead.invariant.1 at c.next_other-ahead.ensures.1

pub returns-then-is_of_kind : goal.returns-then-is_of_kind
returns-then-is_of_kind c =
    expirations_wrong c.loop-ahead.invariant.0 c.loop-ahead-test.true
    (eqb-true _ _ (sym c.is_of_kind.ensures ∙ c.if-is_of_kind.true))
    (expirations_compared c.loop-ahead.invariant.0 c.expiration_word-latest.result c.contains.result
    (rw (c.expiration_word-latest.ensures, c.latest_month.ensures)) (search rules)
    ∙ c.if-not-contains.true)

pub returns-then-not-contains : goal.returns-then-not-contains
returns-then-not-contains c = (
  expirations_stop c.loop-ahead.invariant.0 c.loop-ahead-test.true
      (eqb-false _ _ (sym c.is_of_kind.ensures ∙ c.if-is_of_kind.false)),
  c.loop-ahead.invariant.1,
)

pub returns-then-next-i : goal.returns-then-next-i
returns-then-next-i c =
    let found = (goal.at.returns-then-next-i c).After-next_other-ahead in
    expirations_empty c.loop-ahead.invariant.0 c.loop-ahead-test.true (kind_five found) c.next_other-ahead.result.at
    (ends found) (omega arith)

pub returns-then-not-are_strikes : goal.returns-then-not-are_strikes
returns-then-not-are_strikes c =
    let found = (goal.at.returns-then-not-are_strikes c).After-next_other-ahead in
    expirations_outside c.loop-ahead.invariant.0 c.loop-ahead-test.true (kind_five found)
    c.next_other-ahead.result.at (ends found) (sym c.are_strikes.ensures ∙ c.if-not-are_strikes.true)

pub loop-ahead-preserved : goal.loop-ahead-preserved
loop-ahead-preserved c =
    let found = (goal.at.loop-ahead-preserved c).After-next_other-ahead in
    let same = c.next_other-ahead.ensures.0 ∙ c.loop-ahead.invariant.1 in (
      expirations_more c.loop-ahead.invariant.0 c.loop-ahead-test.true (kind_five found) c.next_other-ahead.result.at
          (ends found) (passed found) (omega (arith, ends found))
          (sym c.are_strikes.ensures ∙ c.if-not-are_strikes.false)
          (rw same at c.next_other-ahead.result.tells.within),
      same,
    )
