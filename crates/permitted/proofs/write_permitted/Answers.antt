-- `write_permitted`: the permitted strikes of the two ranges are all.
use Rattle.std.proofs.Common.{refl, rules}
use Rattle.permitted.proofs.BothRanges.{none_listed, turned_climbs, turned_next, turned_place, turned_all}
use Rattle.permitted.proofs.write_permitted.Goals as goal

pub loop-range-init : goal.loop-range-init
loop-range-init c = none_listed

pub write_range-requires : goal.write_range-requires
write_range-requires c =
    rw (c.rungs-rungs.ensures, c.requires.1)
    (turned_climbs _ refl c.requires.0 c.loop-range.invariant c.loop-range-test.true)

pub loop-range-preserved : goal.loop-range-preserved
loop-range-preserved c =
    turned_next _ refl c.requires.0 c.loop-range.invariant c.loop-range-test.true
    (rw c.requires.1 at c.write_range.ensures)

pub returns : goal.returns
returns c =
    let all = turned_all _ refl c.requires.0 c.loop-range.invariant c.loop-range-test.false in
    let place = turned_place _ refl c.requires.0 c.loop-range.invariant in
    record { value = all.0; out_after = rw (← all.1) (search rules) }
