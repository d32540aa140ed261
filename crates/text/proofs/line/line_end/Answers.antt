-- The first line feed is where `position` finds one, and none is before the end where it finds none.
use Rattle.std.proofs.Common.{◌≡◌, ◌∙◌, ap, length, nat_eq, rules, position, unwrap_or}
use Rattle.std.proofs.lemmas.Iterator.{YieldsList-from_slice}
use Rattle.std.proofs.lemmas.Iterator.Search.{position_from_yields_List}
use Rattle.text.specs.Alphabet.{line_feed}
use Rattle.text.proofs.SheetLines.{end_found}
use Rattle.text.proofs.line.line_end.Goals as goal

pub returns : goal.returns
returns c =
    let bytes = c.args.bytes.now in
    let found : c.position.result ≡ position (λ b. nat_eq b line_feed) bytes =
    position_from_yields_List (λ b. nat_eq b line_feed) _ _ _ c.position.ensures.ran (YieldsList-from_slice bytes cc)
    (λ x b q k. search rules) in
    c.unwrap_or.ensures ∙ ap (λ o. unwrap_or o (length bytes)) found ∙ end_found bytes
