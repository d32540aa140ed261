-- Document 01, "A run is a book exactly when it has this form with every field in its limits ..", "Classes rise by
-- number ..": the limits and the order of facts, and the runs that are books. Assumes nothing.
use Rattle.std.specs.Prelude.{ℕ, ◌+◌, Bool, true, false, ◌&&◌, List, [], ◌∷◌, length, eqb, leb}
use Rattle.word.specs.Limits.{is_strike, is_month, months_ahead, is_length, is_ground, is_mark}
use Rattle.logic.specs.Lists.{every, rises}
use Rattle.word.specs.Caps.{is_cap_kept}
use Rattle.word.specs.Programs.{programs}
use Rattle.word.specs.Figures.{are_figures}
use Rattle.book.specs.Facts.{Series, OpenClass, Facts, is_below, precedes, owned, words_taken}
use Rattle.book.specs.Layout.{layout, facts_of}

-- "each expiration from `now` to `now` + 39"
abbrev pub is_listed : ℕ → ℕ → Bool
is_listed now m = leb now m && (leb m (now + months_ahead) && is_month m)

abbrev pub is_series : ℕ → Series → Bool
is_series now s =
    is_strike s.strike && (is_ground s.on_ground && (is_mark s.put && (is_mark s.call && is_listed now s.month)))

-- "a class's expirations by month, an expiration's strikes by h, none twice"
abbrev pub is_class : ℕ → OpenClass → Bool
is_class now x = are_figures x.figures && (every (is_series now) x.series && rises precedes x.series)

-- "Classes rise by number .., none twice."; "with every field in its limits, each expiration from `now` to `now` + 39,
-- at most 150 classes .. and at most 20 ..", within n words
unfoldable pub is_well_formed : ℕ → Facts → Bool
is_well_formed n f =
    is_length n
    && (leb (words_taken f) n
    && (is_month f.now
    && (every (is_class f.now) f.classes
    && (rises is_below f.classes && every (is_cap_kept (λ p. owned p f.classes)) programs))))

abbrev pub same_words : List ℕ → List ℕ → Bool
same_words [] [] = true
same_words [] (w ∷ ws) = false
same_words (v ∷ vs) [] = false
same_words (v ∷ vs) (w ∷ ws) = eqb v w && same_words vs ws

-- "A run is a book exactly when it has this form": it is what the layout gives to the facts that it reads there, and
-- they are well formed
unfoldable pub is_book : List ℕ → Bool
is_book ws = is_well_formed (length ws) (facts_of ws) && same_words (layout (length ws) (facts_of ws)) ws
