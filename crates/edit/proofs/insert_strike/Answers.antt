-- `insert_strike`: the words are put in, and the counters count one strike more.
use Rattle.std.proofs.Common.{sym, ap, ◌∙◌, subst}
use Rattle.word.specs.Counters.{Addable, strike_among, strikes_added}
use Rattle.edit.proofs.Edits.{strike_addable, strike_written}
use Rattle.edit.proofs.insert_strike.Goals as goal

pub add_strikes-requires : goal.add_strikes-requires
add_strikes-requires c =
    let words = c.insert_words in
    subst (Addable _) (sym (c.strike_among.ensures ∙ ap strike_among c.strike_word.ensures))
    (strike_addable _ _ _ _ _ _ c.requires _ words.auto.run (words.ensures c.requires))

pub returns : goal.returns
returns c = λ x.
    c.add_strikes.ensures
    ∙ (λ i.
    strikes_added ((c.strike_among.ensures ∙ ap strike_among c.strike_word.ensures) i) (c.insert_words.ensures x i))
    ∙ strike_written _ _ _ _ _ _ x
