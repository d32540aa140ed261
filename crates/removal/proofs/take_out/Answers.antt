-- `take_out`: the strike's word is taken out, and its expiration's where it is alone.
use Rattle.std.proofs.Common.{true, false, refl, ◌∙◌, arith}
use Rattle.removal.proofs.Delisted.{standing, delisted}
use Rattle.removal.proofs.take_out.Goals as goal

pub remove-requires : goal.remove-requires
remove-requires c =
    let s = standing _ _ _ c.requires in
    record { book = c.requires.book; inside = omega arith; room = s.room }

pub returns-then-alone : goal.returns-then-alone
returns-then-alone c = λ x. c.remove.ensures ∙ delisted _ _ _ x true c.if-alone.true _ refl

pub remove-requires-else-alone : goal.remove-requires-else-alone
remove-requires-else-alone c =
    let s = standing _ _ _ c.requires in
    record { book = c.requires.book; inside = omega arith; room = s.room }

pub returns-else-alone : goal.returns-else-alone
returns-else-alone c = λ x. c.remove-else-alone.ensures ∙ delisted _ _ _ x false c.if-alone.false _ (omega arith)
