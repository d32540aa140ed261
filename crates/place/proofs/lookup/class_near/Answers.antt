-- `class_near` finds a class: a class word near by that holds its number is the first from its number on, which stands
-- where the class does. Assumes nothing.
use Rattle.std.proofs.Common.{eqb-true}
use Rattle.logic.proofs.Tests.{parts}
use Rattle.place.proofs.Found.{class_rises, class_sought}
use Rattle.place.proofs.lookup.class_near.Goals as goal

pub returns : goal.returns
returns c =
    let book = c.requires.0 in
    let there = rw c.used_from.ensures.words at c.in-Some.ensures.holding in
    class_sought _ book _ _
    ((class_rises _ book _).equal _ there.0 (search parts) (eqb-true _ _ (search parts)))
