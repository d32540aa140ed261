-- `decide` decides by the place of the first row that passes (`place_decides`). Assumes nothing.
use Rattle.std.proofs.Common.{Err, ap, ◌∙◌, rules, tests}
use Rattle.std.proofs.lemmas.Iterator.{YieldsList-from_slice}
use Rattle.std.proofs.lemmas.Iterator.Search.{position_from_yields_List}
use Rattle.rule.specs.Judgement.{passes}
use Rattle.rule.proofs.Rows.{place_decides}
use Rattle.rule.proofs.judgement.decide.Goals as goal

pub returns-in-Some : goal.returns-in-Some
returns-in-Some c =
    place_decides c.args.rows _
    (position_from_yields_List passes _ _ _ c.in-Some.ensures.ran (YieldsList-from_slice c.args.rows cc)
    (λ x b q k. search (rules, tests)))

pub returns-in-None : goal.returns-in-None
returns-in-None c =
    ap Err c.refusal_of.ensures
    ∙ place_decides c.args.rows _
    (position_from_yields_List passes _ _ _ c.in-None.ensures.ran (YieldsList-from_slice c.args.rows cc)
    (λ x b q k. search (rules, tests)))
