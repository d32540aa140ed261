-- Inner: how far a review in steps is, and what a step does to the words. Assumes nothing.
use Rattle.std.specs.Prelude.{ℕ, ◌+◌, ◌-◌, ◌≡◌, Bool, cond, not, ◌&&◌, List, length, get_or, set}
use Rattle.logic.specs.Lists.{only}
use Rattle.book.specs.Facts.{Series, OpenClass}
use Rattle.book.specs.Views.{is_reviewed}
use Rattle.review.specs.declared.steps.ReviewState.{ReviewState}
use Rattle.review.specs.ReviewSteps.{is_highest, after_steps, gone_count, below, words_of_series, words_after}
use Rattle.review.specs.Marks.{standing, count_of, bounds_of}

-- of the n highest strikes, those that stay
abbrev pub stayed : ℕ → OpenClass → List Series
stayed n x = only (λ s. is_highest n x s && not (is_reviewed x s)) x.series

-- the expiration of the highest strike below them: 0 for none, else its month + 1
abbrev pub last_below : ℕ → OpenClass → ℕ
last_below n x = standing 0 (below n x)

-- n steps of the review of the class x are made: the words of its series are ws, and k says how far it is. Every word
-- and every number follows from the class.
pub record Reached (n : ℕ) (x : OpenClass) (ws : List ℕ) (k : ReviewState) : Type 0 where
  pub words : ws ≡ words_after n x
  pub read : k.read ≡ length (words_of_series (below n x))
  pub written :
      k.written + length (words_of_series (after_steps n x).series) ≡ k.read + length (words_of_series x.series)
  pub free : k.written ≡ k.read + (gone_count n x + k.emptied)
  pub first : k.last.first + count_of (last_below n x) (below n x) ≡ k.read
  pub bounds : k.last.bounds ≡ bounds_of x.series (last_below n x)
  pub top : k.top ≡ k.written + count_of (last_below n x) (stayed n x)

-- ---- a word that goes up or goes

abbrev pub lifted_to : ℕ → Bool → ℕ
lifted_to written stays = written - cond {A = ℕ} stays 1 0

-- the word at `at` taken out and, where it stays, put before `written`
abbrev pub lifted : ℕ → ℕ → Bool → List ℕ → List ℕ
lifted at written stays ws = cond stays (set (set ws at 0) (written - 1) (get_or ws at 0)) (set ws at 0)
