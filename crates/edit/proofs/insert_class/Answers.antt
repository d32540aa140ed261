-- `insert_class`: the words put in are those of a class as it is opened.
use Rattle.std.proofs.Common.{ℕ, List, [], map, ap, ◌∙◌, arith}
use Rattle.word.specs.declared.class.ClassRecord.{ClassRecord}
use Rattle.word.specs.Codec.{packed}
use Rattle.word.specs.Figures.{figures_words}
use Rattle.edit.specs.Insertion.{insert_words}
use Rattle.edit.proofs.Edits.{opened_limits, opened_room, class_inserted}
use Rattle.edit.proofs.insert_class.Goals as goal

pub words-requires : goal.words-requires
words-requires c = opened_limits _ _ _ c.requires c.open.result c.open.ensures

pub insert-requires : goal.insert-requires
insert-requires c = (omega arith, opened_room _ _ _ c.requires)

pub returns : goal.returns
returns c =
    let a = c.args in
    c.insert.ensures
    ∙ ap (λ (l : List ℕ). insert_words a.at l a.run.now)
    (c.words.ensures ∙ ap (λ (r : ClassRecord). map packed (figures_words r [])) c.open.ensures)
    ∙ class_inserted a.run.now a.at a.c c.requires
