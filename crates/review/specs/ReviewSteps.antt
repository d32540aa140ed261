-- #102, "It goes in steps: show that after n steps, of the class's n highest strikes, by month and then by strike,
-- exactly those that the review removes are gone, and its strikes below them keep their words and places.": a class,
-- and the words of its series, after n steps of its review. Assumes nothing.
use Rattle.std.specs.Prelude.{ℕ, ◌-◌, Bool, not, ◌&&◌, List, [], ◌++◌, map, ltb, length, drop, replicate}
use Rattle.logic.specs.Lists.{only}
use Rattle.word.specs.Codec.{packed}
use Rattle.book.specs.Facts.{Series, OpenClass, with_series, precedes}
use Rattle.book.specs.Layout.{series_words}
use Rattle.book.specs.Views.{is_reviewed}

-- "of the class's n highest strikes, by month and then by strike": fewer than n of its strikes stand above s
abbrev pub is_highest : ℕ → OpenClass → Series → Bool
is_highest n x s = ltb (length (only (precedes s) x.series)) n

-- ".. exactly those that the review removes are gone": whether a strike is removed is asked of the class as it was
abbrev pub is_gone : ℕ → OpenClass → Series → Bool
is_gone n x s = is_highest n x s && is_reviewed x s

-- the class after n steps
abbrev pub after_steps : ℕ → OpenClass → OpenClass
after_steps n x = with_series (only (λ s. not (is_gone n x s)) x.series) x

-- how many are gone
abbrev pub gone_count : ℕ → OpenClass → ℕ
gone_count n x = length (only (is_gone n x) x.series)

-- "its strikes below them"
abbrev pub below : ℕ → OpenClass → List Series
below n x = only (λ s. not (is_highest n x s)) x.series

-- the words that the layout gives to the series of a class
abbrev pub words_of_series : List Series → List ℕ
words_of_series ss = map packed (series_words 0 ss [])

-- ".. and its strikes below them keep their words and places": first their words, as in the class's words before; then
-- the free words, which are zero; and then what follows theirs in the words of the class as it then is
unfoldable pub words_after : ℕ → OpenClass → List ℕ
words_after n x =
    let low = words_of_series (below n x) in
    let all = words_of_series (after_steps n x).series in
    low ++ (replicate (length (words_of_series x.series) - length all) 0 ++ drop (length low) all)
