-- `is_open_at` says whether a class is open: the word where it would stand holds its number exactly then. Assumes
-- nothing.
use Rattle.std.proofs.Common.{ℕ, Bool, eqb, ◌∙◌, rules, tests}
use Rattle.word.specs.Kinds.{key_of, class_kind}
use Rattle.place.proofs.Found.{class_found}
use Rattle.place.proofs.LookedUp.{used_test}
use Rattle.place.proofs.lookup.is_open_at.Goals as goal

pub returns : goal.returns
returns c =
    let a = c.args in
    let test : ℕ → Bool = λ w. eqb (key_of class_kind w) a.c in
    used_test a.run.now a.at _ _ _ test c.used_word.ensures c.is_some_and.ensures (λ w k. search (rules, tests))
    ∙ class_found _ c.requires.0 a.c a.at c.requires.1
