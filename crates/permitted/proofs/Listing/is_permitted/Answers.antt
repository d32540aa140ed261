-- `Listing::is_permitted`: only the words near the strike bear on it.
use Rattle.std.proofs.Common.{true, false, sym, ◌∙◌}
use Rattle.permitted.proofs.StandingStrikes.{near_permits}
use Rattle.permitted.proofs.Listing.is_permitted.Goals as goal

pub returns-then-is_absent : goal.returns-then-is_absent
returns-then-is_absent c =
    c.is_accepted.ensures
    ∙ near_permits c.requires (rw c.reach.ensures at c.strikes_below-end.ensures.value) true
    (sym c.if-is_absent.true ∙ c.is_absent.ensures)

pub returns-else-is_absent : goal.returns-else-is_absent
returns-else-is_absent c =
    c.if-is_absent.false
    ∙ near_permits c.requires (rw c.reach.ensures at c.strikes_below-end.ensures.value) false
    (sym c.if-is_absent.false ∙ c.is_absent.ensures)
