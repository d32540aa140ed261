-- `Listing::write_multiples`: what stands too far below is passed, and a strike is written where it is permitted.
use Rattle.std.proofs.Common.{◌≡◌, sym, ap, ◌∙◌, refl, map, not}
use borrow.Author.Tests.{eq-eqb}
use Rattle.rule.specs.Spacing.{standing_of}
use Rattle.rule.specs.Judgement.{is_permitted_beside}
use Rattle.permitted.proofs.Trying.{Trying, trying_start, trying_reach, trying_passed, trying_here, trying_judged}
use Rattle.permitted.proofs.Trying.{trying_open, trying_standing, trying_taken, trying_skipped}
use Rattle.permitted.proofs.Listing.write_multiples.Goals as goal
use Rattle.permitted.proofs.Listing.write_multiples.Goals.{Joined-next-h, then-next-h, else-next-h}
use Rattle.permitted.proofs.Listing.write_multiples.Goals.{then-h-reach+then-rung, then-h-reach+else-rung}
use Rattle.permitted.proofs.Listing.write_multiples.Goals.{else-h-reach+then-next-h-2, else-h-reach+else-next-h-2}
use Rattle.permitted.proofs.Listing.write_multiples.Goals.{then-permitted, else-permitted}

pub loop-h-init : goal.loop-h-init
loop-h-init c =
    let first = c.next_multiple_of-h.ensures in
    rw c.next_strike-next.ensures
    (trying_start c.requires _ _ c.reach-reach.ensures first.lower_bound first.upper_bound first.multiple)

pub overflow_sub-h : goal.overflow_sub-h
overflow_sub-h c = trying_reach c.requires c.loop-h.invariant c.loop-h-test.true

-- whether or not it looked again
passed :
    (c : Joined-next-h)
    → Trying c.args.self.now c.args.rung c.args.range c.reach-reach.result c.if-next-h.self c.if-next-h.next c.loop-h.h
passed c =
    let inv = c.loop-h.invariant in
    elim c.if-next-h.branch [
      | then-next-h w ↦
          rw (w.self-is, w.next-is, w.next_strike-next-then-next-h.ensures)
          (trying_passed c.requires inv c.loop-h-test.true _ refl refl refl w.strikes_from-self.ensures)
      | else-next-h w ↦ rw (w.self-is, w.next-is) inv
    ]

pub is_permitted-requires : goal.is_permitted-requires
is_permitted-requires c =
    trying_here c.requires (passed (goal.at.is_permitted-requires c).Joined-next-h) c.loop-h-test.true

pub is_permitted-requires-then-next-h-2 : goal.is_permitted-requires-then-next-h-2
is_permitted-requires-then-next-h-2 c =
    trying_here c.requires (passed (goal.at.is_permitted-requires-then-next-h-2 c).Joined-next-h) c.loop-h-test.true

pub loop-h-preserved : goal.loop-h-preserved
loop-h-preserved c =
    let a = c.args.self.now in
    let standing = map standing_of a.standing.now in
    let inv = passed (goal.at.loop-h-preserved c).Joined-next-h in
    let here = c.loop-h-test.true in
    let tested : c.if-h-reach.permitted ≡ is_permitted_beside a.setting standing c.loop-h.h =
    elim c.if-h-reach.branch [
      | then-h-reach+then-rung w ↦
          w.permitted-is ∙ w.if-rung.true ∙ trying_open c.requires inv here w.if-rung.true w.if-h-reach.true
      | then-h-reach+else-rung w ↦ w.permitted-is ∙ trying_judged c.requires inv here w.is_permitted.ensures
      | else-h-reach+then-next-h-2 w ↦
          w.permitted-is ∙ trying_judged c.requires inv here w.is_permitted-then-next-h-2.ensures
      | else-h-reach+else-next-h-2 w ↦
          w.permitted-is
          ∙ ap not (eq-eqb _ _ w.if-next-h-2.false)
          ∙ trying_standing c.requires inv here w.if-next-h-2.false
    ] in
    elim c.if-permitted.branch [
      | then-permitted w ↦
          rw w.self-is (trying_taken c.requires inv here (sym w.if-permitted.true ∙ tested) w.write.ensures)
      | else-permitted w ↦ rw w.self-is (trying_skipped c.requires inv here (sym w.if-permitted.false ∙ tested))
    ]
