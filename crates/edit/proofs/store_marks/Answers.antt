-- `store_marks`: the word is the strike's, and its strike and its ground are stored again.
use Rattle.std.proofs.Common.{ℕ, set, ap, ◌∙◌, arith}
use Rattle.word.specs.Codec.{Strike, packed}
use Rattle.edit.proofs.Edits.{marks_room, marks_stored}
use Rattle.edit.proofs.store_marks.Goals as goal

pub offset_bounds-run-at : goal.offset_bounds-run-at
offset_bounds-run-at c = omega (arith, marks_room _ _ _ _ c.requires)

pub bounds-run-at : goal.bounds-run-at
bounds-run-at c = marks_room _ _ _ _ c.requires

pub offset_bounds-run-at-2 : goal.offset_bounds-run-at-2
offset_bounds-run-at-2 c = omega (arith, marks_room _ _ _ _ c.requires)

pub bounds-run-at-2 : goal.bounds-run-at-2
bounds-run-at-2 c = marks_room _ _ _ _ c.requires

pub returns : goal.returns
returns c = λ x.
    let a = c.args in
    let strike = c.key_of.ensures in
    let on_ground = c.field_of.ensures in
    ap (λ (w : ℕ). set a.run.now a.at w)
    (c.strike_word.ensures ∙ (λ i. packed (Strike (strike i) (on_ground i) a.a a.b)))
    ∙ marks_stored a.run.now a.at a.a a.b c.requires.book x
