-- `rows_of`: the rows at the low are all of them where it is the high, and else those at the high join them
-- (`joined_all`). Assumes nothing.
use Rattle.std.proofs.Common.{refl, ◌∙◌}
use Rattle.rule.specs.Judgement.{either_rows}
use Rattle.rule.proofs.Rows.{none, joined_price, joined_next, joined_all}
use Rattle.rule.proofs.judgement.rows_of.Goals as goal

pub rows_at-low-requires : goal.rows_at-low-requires
rows_at-low-requires c = (c.requires, joined_price c.args.s c.args.strike.0 none c.requires)

pub returns-then-s : goal.returns-then-s
returns-then-s c = c.rows_at-low.ensures ∙ joined_all c.args.s c.args.strike.0 none c.if-s.true

pub rows_at-requires : goal.rows_at-requires
rows_at-requires c =
    let s = c.args.s in
    let h = c.args.strike.0 in
    (c.requires, joined_price s h (joined_next s h none c.if-s.false) c.requires)

pub returns : goal.returns
returns c =
    let s = c.args.s in
    let h = c.args.strike.0 in
    c.either_rows.ensures
    ∙ (λ i. either_rows (c.rows_at-low.ensures i) (c.rows_at.ensures i))
    ∙ joined_all s h (joined_next s h none c.if-s.false) refl
