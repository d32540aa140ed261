-- `Listing::write_range`: a rung is passed, or the strikes up to its end are listed.
use Rattle.std.proofs.Common.{refl, arith, rules}
use Rattle.rule.proofs.Rungs.{climbed_done}
use Rattle.permitted.proofs.RungByRung.{going_passed, going_can, going_on}
use Rattle.permitted.proofs.Listing.write_range.Goals as goal
use Rattle.permitted.proofs.Listing.write_range.Goals.{then-low-high, else-low-high}

pub write_multiples-requires : goal.write_multiples-requires
write_multiples-requires c =
    going_can c.requires c.loop-rung.invariant refl c.min-high.ensures c.if-low-high.true

pub loop-rung-preserved : goal.loop-rung-preserved
loop-rung-preserved c =
    let inv = c.loop-rung.invariant in
    let is = c.min-high.ensures in
    elim c.if-low-high.branch [
      | then-low-high w ↦
          rw (w.self-is, w.low-is)
          (going_on c.requires inv refl is w.if-low-high.true w.write_multiples.ensures)
      | else-low-high w ↦
          rw (w.self-is, w.low-is) (going_passed c.requires inv refl is w.if-low-high.false)
    ]

pub returns-after-loop-rung : goal.returns-after-loop-rung
returns-after-loop-rung c =
    let past = climbed_done c.loop-rung.invariant.climbed (omega arith) in
    search rules
