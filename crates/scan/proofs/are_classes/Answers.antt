-- `are_classes` tests the classes: each way through the loop is one law of the loop.
use Rattle.std.proofs.Common.{arith, ℕ, ◌+◌, ◌∙◌, sym, ap}
use mathlib.Core.Logic.Iff
use Rattle.word.specs.declared.counter.Counts.{Counts}
use Rattle.word.specs.Caps.{own}
use Rattle.word.proofs.EachProgram.{each_program}
use Rattle.scan.proofs.Classes.{count_of, counts_tested, Counted, counted_same, walked_start, walked_small, walked_wrong, walked_counted, walked_end, counted_breaks, counted_more}
use Rattle.scan.proofs.are_classes.Goals as goal
use Rattle.scan.proofs.are_classes.Goals.{After-counted-two_fifties}

-- the class at i is counted
counted :
    (c : After-counted-two_fifties)
    → Counted c.args.current c.args.s.now c.loop-ahead.ahead.at c.key_of-last.result
    (count_of c.counted-dollars.result.0 c.counted-halves.result.0 c.counted-two_fifties.result.0)
counted c =
    counted_same
    (walked_counted c.loop-ahead.invariant.0 c.if-s-i-lt-LENGTH.false
    (sym c.are_figures.ensures ∙ c.if-not-are_figures.false))
    c.key_of-last.ensures
    (each_program _ (
      c.counted-dollars.ensures ∙ ap (λ (d : ℕ). c.loop-ahead.dollars.0 + own d) c.field_of.ensures,
      (
        c.counted-halves.ensures ∙ ap (λ (d : ℕ). c.loop-ahead.halves.0 + own d) c.field_of-in-loop-ahead.ensures,
        (
          c.counted-two_fifties.ensures
              ∙ ap (λ (d : ℕ). c.loop-ahead.two_fifties.0 + own d) c.field_of-in-loop-ahead-2.ensures,
          tt,
        ),
      ),
    ))

pub loop-ahead-init : goal.loop-ahead-init
loop-ahead-init c = (
  rw c.new-ahead.ensures.1
      (walked_start c.args.current c.args.s.now c.requires.head
      (each_program _ (c.of-dollars.ensures, (c.of-halves.ensures, (c.of-two_fifties.ensures, tt))))),
  c.new-ahead.ensures.0,
)

pub returns-then-not-are_figures : goal.returns-then-not-are_figures
returns-then-not-are_figures c = (
  λ t. absurd t,
  walked_wrong c.loop-ahead.invariant.0 c.if-s-i-lt-LENGTH.false
      (sym c.are_figures.ensures ∙ c.if-not-are_figures.true),
)

pub counted-dollars-requires : goal.counted-dollars-requires
counted-dollars-requires c = (omega arith, walked_small c.loop-ahead.invariant.0 c.requires.most 1 tt)

pub counted-halves-requires : goal.counted-halves-requires
counted-halves-requires c = (omega arith, walked_small c.loop-ahead.invariant.0 c.requires.most 2 tt)

pub counted-two_fifties-requires : goal.counted-two_fifties-requires
counted-two_fifties-requires c = (omega arith, walked_small c.loop-ahead.invariant.0 c.requires.most 3 tt)

pub returns-in_default : goal.returns-in_default
returns-in_default c = (
  λ t. absurd t,
  counted_breaks (counted (goal.at.returns-in_default c).After-counted-two_fifties)
      (rw (c.skip_to.ensures.0 ∙ c.loop-ahead.invariant.1, c.skip_to.ensures.1) at c.in_default.ensures),
)

pub loop-ahead-preserved : goal.loop-ahead-preserved
loop-ahead-preserved c =
    let same = c.skip_to.ensures.0 ∙ c.loop-ahead.invariant.1 in
    let end = rw (same, c.skip_to.ensures.1) at c.in-Some.ensures in (
      counted_more (counted (goal.at.loop-ahead-preserved c).After-counted-two_fifties) c.in-Some.next.at end.0,
      end.1,
    )

pub returns : goal.returns
returns c =
    Iff.trans
    (counts_tested c.loop-ahead.dollars.0 c.loop-ahead.halves.0 c.loop-ahead.two_fifties.0 c.args.s.now
    (ap (λ (r : Counts). r.own) c.read.ensures) (ap (λ (r : Counts). r.own) c.read-2.ensures)
    (ap (λ (r : Counts). r.own) c.read-3.ensures) c.is_exceeded.ensures c.is_exceeded-2.ensures
    c.is_exceeded-3.ensures)
    (walked_end c.loop-ahead.invariant.0 c.loop-ahead-test.false)
