-- Inner: what the review, its steps and each of them ask of a run, or of the words of a class's series. Assumes
-- nothing.
use Rattle.std.specs.Prelude.{ℕ, ◌+◌, ◌<◌, ◌≤◌, ◌≡◌, List, [], T, length}
use Rattle.word.specs.Limits.{longest_run}
use Rattle.word.specs.Figures.{figures_length}
use Rattle.book.specs.Facts.{OpenClass, is_class_open}
use Rattle.book.specs.Layout.{facts_of, series_words}
use Rattle.book.specs.Books.{is_class, is_book}
use Rattle.book.specs.Views.{class}
use Rattle.book.specs.Places.{class_place}
use Rattle.review.specs.declared.marks.Bounds.{Bounds}
use Rattle.review.specs.declared.steps.ReviewState.{ReviewState}
use Rattle.review.specs.ReviewSteps.{words_of_series}
use Rattle.review.specs.Marks.{near_strikes}
use Rattle.review.specs.StepStates.{Reached}

-- the series of an open class with this close have the words from `from` to `to`
pub record Reviewable (ws : List ℕ) (from to price : ℕ) : Type 0 where
  pub book : T (is_book ws)
  pub number : ℕ
  pub is_open : T (is_class_open number (facts_of ws).classes)
  pub begins : from ≡ class_place number (facts_of ws) + figures_length
  pub ends : to ≡ from + length (series_words 0 (class (facts_of ws) number).series [])
  pub close : price ≡ (class (facts_of ws) number).figures.close

-- the words ws are those of the series of a class with this close
pub record Steppable (price : ℕ) (ws : List ℕ) : Type 0 where
  pub month : ℕ
  pub class : OpenClass
  pub limits : T (is_class month class)
  pub close : price ≡ class.figures.close
  pub words : ws ≡ words_of_series class.series
  pub short : length ws ≤ longest_run

-- some steps of the review of a class are made, to whose close these strikes are near, and one more is to be made
pub record Stepping (near : Bounds) (ws : List ℕ) (k : ReviewState) : Type 0 where
  pub month : ℕ
  pub class : OpenClass
  pub limits : T (is_class month class)
  pub close : near ≡ near_strikes class.figures.close
  pub steps : ℕ
  pub more : steps < length class.series
  pub reached : Reached steps class ws k
  pub short : length ws ≤ longest_run
