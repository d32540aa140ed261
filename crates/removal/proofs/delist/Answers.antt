-- `delist`: the strike's word is taken out, and its program's counter counts one less.
use Rattle.std.proofs.Common.{◌∙◌, arith}
use Rattle.word.specs.Counters.{strikes_taken}
use Rattle.removal.proofs.Delisted.{standing, delisted_among, delisted_counted}
use Rattle.removal.proofs.delist.Goals as goal

pub offset_bounds-run-at : goal.offset_bounds-run-at
offset_bounds-run-at c = omega (arith, standing _ _ _ c.requires)

pub bounds-run-at : goal.bounds-run-at
bounds-run-at c = omega (arith, standing _ _ _ c.requires)

pub take_strikes-requires : goal.take_strikes-requires
take_strikes-requires c = (
  omega (arith, c.take_out.auto.run, standing _ _ _ c.requires),
  delisted_among _ _ _ c.requires _ _ (c.take_out.ensures c.requires) c.strike_among-gone.ensures,
)

pub returns : goal.returns
returns c = λ x.
    c.take_strikes.ensures
    ∙ (λ i. strikes_taken (c.strike_among-gone.ensures i) (c.take_out.ensures x i))
    ∙ delisted_counted _ _ _ x
