-- `write`: the words are stored at once where they would be stored one after another.
use Rattle.std.proofs.Common.{[], map, refl, sym, ◌∙◌, arith}
use Rattle.std.proofs.lemmas.Slice.{put_mid-paste}
use Rattle.std.proofs.lemmas.List.Edits.{sets-eq}
use Rattle.word.specs.Codec.{packed}
use Rattle.word.specs.Figures.{figures_words, figures_length}
use Rattle.word.proofs.figures.write.Goals as goal

pub returns : goal.returns
returns c =
    let a = c.args in
    let words = map packed (figures_words a.figures []) in
    put_mid-paste a.at _ a.run.now _ words figures_length (c.copy_from_slice.ensures.after ∙ c.words.ensures)
    (omega arith) refl
    ∙ sym (sets-eq words a.run.now a.at (omega arith))
