-- Inner: the words of facts before their counters are written. Assumes nothing.
use Rattle.std.specs.Prelude.{ℕ, ◌-◌, List, [], ◌∷◌, ◌++◌, map, replicate}
use Rattle.word.specs.Codec.{Head, packed}
use Rattle.book.specs.Facts.{Facts}
use Rattle.book.specs.Layout.{classes_words, counter_words, used}

-- the run of n words that has the words of g, and still the counters of f
unfoldable pub uncounted : ℕ → Facts → Facts → List ℕ
uncounted n f g =
    map packed (Head g.now (used g) ∷ (counter_words f.classes ++ classes_words g.classes []))
    ++ replicate (n - used g) 0
