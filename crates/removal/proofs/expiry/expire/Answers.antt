-- `expire`: at each class by the laws of a turn, and behind the last one by the law of what has gone.
use Rattle.std.proofs.Common.{ℕ, ◌+◌, ◌≤◌, length, ap, ◌∙◌, arith}
use borrow.Rule.Slice.PartMut.{same_len_mid, mid_len}
use Rattle.logic.proofs.Slices.{stretch}
use Rattle.word.specs.Limits.{longest_run}
use Rattle.word.specs.Figures.{figures_length}
use Rattle.word.specs.Counters.{together, strikes_taken}
use Rattle.word.proofs.Counters.{among_few}
use Rattle.place.proofs.Heads.{book_long}
use Rattle.removal.proofs.Expiring.{expire_start, at_class, expire_stay, expire_move, expire_done}
use Rattle.removal.proofs.Expiring.{gone_among, gone_counted}
use Rattle.removal.proofs.expiry.expire.Goals as goal
use Rattle.removal.proofs.expiry.expire.Goals.{After-first, then-start-stays, else-start-stays}

-- what stays begins within the words used
stays_within : (c : After-first) → c.loop-at.at + figures_length + c.first.result ≤ c.used-end.result
stays_within c =
    let at = c.loop-at in
    let here = at_class _ _ at.invariant (omega arith) (omega arith) in
    omega (
      arith,
      here.room,
      c.first.ensures.1,
      mid_len (at.at + figures_length) c.used-end.result at.run (omega arith),
    )

-- the stretch that goes is short
stretch_short :
    (c : After-first)
    → let from = c.loop-at.at + figures_length in
    length (stretch from (from + c.first.result) c.loop-at.run) ≤ longest_run
stretch_short c =
    let from = c.loop-at.at + figures_length in
    let within = stays_within c in
    omega (
      arith,
      mid_len from (from + c.first.result) c.loop-at.run (omega (arith, within)),
      within,
      book_long _ c.requires.0,
    )

pub loop-at-init : goal.loop-at-init
loop-at-init c = expire_start _ _ c.requires.0

pub slice_bounds-first-count : goal.slice_bounds-first-count
slice_bounds-first-count c = omega (arith, (at_class _ _ c.loop-at.invariant (omega arith) (omega arith)).room)

pub slice_bounds-first-start : goal.slice_bounds-first-start
slice_bounds-first-start c = omega (arith, (at_class _ _ c.loop-at.invariant (omega arith) (omega arith)).room)

pub strikes_among-requires : goal.strikes_among-requires
strikes_among-requires c = stretch_short (goal.at.strikes_among-requires c).After-first

pub together-more-requires : goal.together-more-requires
together-more-requires c = (
  λ p k. omega (arith, c.loop-at.invariant.few p k, book_long _ c.requires.0),
  among_few _ _ c.strikes_among.ensures (stretch_short (goal.at.together-more-requires c).After-first),
)

pub slice_bounds-first-count-in-loop-at : goal.slice_bounds-first-count-in-loop-at
slice_bounds-first-count-in-loop-at c = stays_within (goal.at.slice_bounds-first-count-in-loop-at c).After-first

pub slice_bounds-first-start-in-loop-at : goal.slice_bounds-first-start-in-loop-at
slice_bounds-first-start-in-loop-at c =
    omega (arith, stays_within (goal.at.slice_bounds-first-start-in-loop-at c).After-first)

pub loop-at-preserved : goal.loop-at-preserved
loop-at-preserved c =
    let at = c.loop-at in
    let end = c.used-end.ensures in
    let within = stays_within (goal.at.loop-at-preserved c).After-first in
    let from = at.at + figures_length in
    let stays = from + c.first.result in
    let here = at_class _ _ at.invariant (omega arith) (omega arith) in
    let going = ap (λ (k : ℕ). from + k) (rw end at c.first.ensures.0) in
    let next = ap (λ (k : ℕ). stays + k) (rw end at c.first-in-loop-at.ensures.0) in
    elim c.if-start-stays.branch [
      | then-start-stays w ↦
          let moved = w.move_to-written in
          rw (w.run-is, w.written-is, w.kept-is, w.gone-is)
          (expire_move _ _ at.invariant here stays going _ _ _ _
          (w.together-more.ensures ∙ ap (together at.gone) w.strikes_among.ensures) moved.auto.run
          (omega (arith, within)) moved.ensures.1 moved.ensures.0 (rw w.run-is at next))
      | else-start-stays w ↦
          rw (w.run-is, w.written-is, w.kept-is, w.gone-is)
          (expire_stay _ _ at.invariant here stays going _ w.if-start-stays.false (rw w.run-is at next))
    ]

pub write-requires : goal.write-requires
write-requires c =
    omega (
      arith,
      same_len_mid _ _ c.move_to-written-2.new.run c.fill.new.self c.fill.auto.self,
      c.move_to-written-2.auto.run,
      book_long _ c.requires.0,
    )

pub take_strikes-requires : goal.take_strikes-requires
take_strikes-requires c =
    let last = c.move_to-written-2 in
    let at = c.loop-at.invariant in
    let expired =
    c.write.ensures
    ∙ expire_done _ _ at c.requires.0 c.used-end.result c.used-end.ensures c.loop-at-test.false _ _ last.auto.run
    last.ensures.1 last.ensures.0 _ (c.fill.ensures.after (λ y e. e)) in (
      omega (arith, book_long _ c.requires.0, ap length expired),
      gone_among _ _ at c.requires.0 (omega arith) _ expired,
    )

pub returns : goal.returns
returns c =
    let last = c.move_to-written-2 in
    let at = c.loop-at.invariant in
    let expired =
    c.write.ensures
    ∙ expire_done _ _ at c.requires.0 c.used-end.result c.used-end.ensures c.loop-at-test.false _ _ last.auto.run
    last.ensures.1 last.ensures.0 _ (c.fill.ensures.after (λ y e. e)) in
    c.take_strikes.ensures
    ∙ ap (strikes_taken c.loop-at.gone) expired
    ∙ gone_counted _ _ at c.requires.0 (omega arith)
