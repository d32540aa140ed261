-- Inner: what delisting asks of the run ws. Assumes nothing.
use Rattle.std.specs.Prelude.{ℕ, ◌+◌, ◌≡◌, Bool, List, T, eqb}
use Rattle.book.specs.Facts.{is_class_open}
use Rattle.book.specs.Layout.{facts_of}
use Rattle.book.specs.Books.{is_book}
use Rattle.book.specs.Views.{view_of, is_standing}
use Rattle.book.specs.Places.{strike_place, strikes_end, strikes_place}

-- a strike stands at `at`, `alone` in its expiration or not
pub record Delistable (ws : List ℕ) (at : ℕ) (alone : Bool) : Type 0 where
  pub book : T (is_book ws)
  pub class : ℕ
  pub month : ℕ
  pub strike : ℕ
  pub is_open : T (is_class_open class (facts_of ws).classes)
  pub standing : T (is_standing (view_of class (facts_of ws)) month strike)
  pub place : at ≡ strike_place class month strike (facts_of ws)
  pub last : alone ≡ eqb (strikes_end class month (facts_of ws)) (strikes_place class month (facts_of ws) + 1)
