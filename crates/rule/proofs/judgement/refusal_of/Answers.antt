-- `refusal_of` gives the refusal of the rows, by what its two searches tell (`refusal_told`). Assumes nothing.
use Rattle.std.proofs.Common.{true, false, rules, tests}
use Rattle.std.proofs.lemmas.Iterator.{YieldsList-from_slice}
use Rattle.std.proofs.lemmas.Iterator.Search.{any_from_yields_List}
use Rattle.rule.specs.Judgement.{passes_grid, passes_range}
use Rattle.rule.proofs.Rows.{refusal_told}
use Rattle.rule.proofs.judgement.refusal_of.Goals as goal

pub returns-then-any-2 : goal.returns-then-any-2
returns-then-any-2 c =
    refusal_told c.args.rows false true
    (any_from_yields_List passes_range _ _ _ c.if-any.ensures.ran (YieldsList-from_slice c.args.rows cc)
    (λ x b q k. search (rules, tests)))
    (any_from_yields_List passes_grid _ _ _ c.if-any-2.ensures.ran (YieldsList-from_slice c.args.rows cc)
    (λ x b q k. search (rules, tests)))

pub returns-else-any-2 : goal.returns-else-any-2
returns-else-any-2 c =
    refusal_told c.args.rows false false
    (any_from_yields_List passes_range _ _ _ c.if-any.ensures.ran (YieldsList-from_slice c.args.rows cc)
    (λ x b q k. search (rules, tests)))
    (any_from_yields_List passes_grid _ _ _ c.if-any-2.ensures.ran (YieldsList-from_slice c.args.rows cc)
    (λ x b q k. search (rules, tests)))
