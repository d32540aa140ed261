-- Document 01, "A strike that `J` would accept is *permitted*, spacing included; words are left for it when `L` doesn't
-- draw 15." Assumes nothing.
use Rattle.std.specs.Prelude.{ℕ, Bool, not, ◌&&◌, leb}
use Rattle.word.specs.Answers.{is_accepted}
use Rattle.rule.specs.Terms.{is_outside}
use Rattle.rule.specs.Judgement.{judgement}
use Rattle.book.specs.Facts.{Facts, words_taken}
use Rattle.book.specs.Views.{View, class, view_of, is_not_open, is_standing, has_no_close, setting, standing_in, ground_of}
use Rattle.book.specs.Changes.{new_series, strike_added, class_grown}
use Rattle.book.specs.Calls.{is_place}

-- document 01's term: the strike is permitted, spacing included, by what a call sees of the class
abbrev pub is_permitted_by : ℕ → ℕ → View → Bool
is_permitted_by m h v =
    not (is_not_open v)
    && (not (is_outside (setting v m))
    && (not (is_standing v m h) && (not (has_no_close v) && is_accepted (judgement (setting v m) (standing_in v m) h))))

abbrev pub is_permitted : ℕ → ℕ → ℕ → Facts → Bool
is_permitted c m h f = is_place c m h && is_permitted_by m h (view_of c f)

-- the facts with the strike that `L` adds
abbrev pub facts_with_strike : ℕ → ℕ → ℕ → Facts → Facts
facts_with_strike c m h f = class_grown (strike_added (new_series m h (ground_of (view_of c f) m h)) (class f c)) f

-- "words are left for it", in a run of n words: those that the facts would take with it are not more
abbrev pub are_words_left : ℕ → ℕ → ℕ → ℕ → Facts → Bool
are_words_left n c m h f = leb (words_taken (facts_with_strike c m h f)) n
