-- `insert_words`: the new words are the strike's, after its expiration's where that has no strikes.
use Rattle.std.proofs.Common.{ℕ, Bool, [], ◌∷◌, map, sym, ap, ◌∙◌, arith}
use Rattle.word.specs.Codec.{packed}
use Rattle.book.specs.Layout.{expiration_unless, strike_word}
use Rattle.book.specs.Changes.{new_series}
use Rattle.edit.specs.Insertion.{insert_words}
use Rattle.edit.proofs.Edits.{listed_room, strike_inserted}
use Rattle.edit.proofs.insert_words.Goals as goal

pub insert-requires : goal.insert-requires
insert-requires c = (omega arith, rw c.if-stands.true at (listed_room _ _ _ _ _ _ c.requires))

pub returns-then-stands : goal.returns-then-stands
returns-then-stands c = λ x.
    let a = c.args in
    c.insert.ensures
    ∙ ap (λ (w : ℕ). insert_words a.at (w ∷ []) a.run.now) c.strike_word.ensures
    ∙ ap
    (λ (b : Bool).
    insert_words a.at
    (map packed (expiration_unless b a.m (strike_word (new_series a.m a.h a.ground) ∷ []))) a.run.now)
    (sym c.if-stands.true)
    ∙ strike_inserted _ _ _ _ _ _ x

pub insert-requires-2 : goal.insert-requires-2
insert-requires-2 c = (omega arith, rw c.if-stands.false at (listed_room _ _ _ _ _ _ c.requires))

pub returns : goal.returns
returns c = λ x.
    let a = c.args in
    let expiration = c.expiration_word.ensures in
    let strike = c.strike_word-2.ensures in
    c.insert-2.ensures
    ∙ (λ i. insert_words a.at (expiration i ∷ strike i ∷ []) a.run.now)
    ∙ ap
    (λ (b : Bool).
    insert_words a.at
    (map packed (expiration_unless b a.m (strike_word (new_series a.m a.h a.ground) ∷ []))) a.run.now)
    (sym c.if-stands.false)
    ∙ strike_inserted _ _ _ _ _ _ x
