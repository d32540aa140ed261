-- Inner: what the lookups of a class, an expiration and a strike ask, and say of the facts. Assumes nothing.
use Rattle.std.specs.Prelude.{◌≡◌, ℕ, ◌≤◌, false, List, T}
use Rattle.word.specs.declared.answer.Refusal.{Refusal}
use Rattle.word.specs.declared.answer.Refusal.TheVariants.{NotOpen}
use Rattle.word.specs.declared.class.ClassRecord.{ClassRecord}
use Rattle.word.specs.Limits.{is_month}
use Rattle.word.specs.Head.{first_place}
use Rattle.book.specs.Facts.{Facts, is_class_open}
use Rattle.book.specs.Layout.{facts_of, used}
use Rattle.book.specs.Books.{is_book}
use Rattle.book.specs.Views.{class, view_of, is_standing}
use Rattle.book.specs.Places.{ClassBegins, class_place, has_expiration, strikes_place, strikes_end, strike_place}
use Rattle.place.specs.declared.lookup.Expiration.{Expiration}
use Rattle.place.specs.declared.lookup.StrikeSearch.{StrikeSearch}

-- an index from the first class of a book on, and not after its words
pub record AfterHead (ws : List ℕ) (at : ℕ) : Type 0 where
  pub book : T (is_book ws)
  pub after : first_place ≤ at
  pub within : at ≤ used (facts_of ws)

-- the class c is open, its words begin at the index `at`, and r is what they say of it
pub record ClassFound (ws : List ℕ) (c at : ℕ) (r : ClassRecord) : Type 0 where
  pub is_open : T (is_class_open c (facts_of ws).classes)
  pub place : at ≡ class_place c (facts_of ws)
  pub figures : r ≡ (class (facts_of ws) c).figures

-- the class c is not open, and this refusal says so
pub record ClassAbsent (f : Facts) (c : ℕ) (why : Refusal) : Type 0 where
  pub refusal : why ≡ NotOpen
  pub closed : is_class_open c f.classes ≡ false

-- the month m can be looked up in the class whose words begin at `class`
pub record Searchable (ws : List ℕ) (class m : ℕ) : Type 0 where
  pub book : T (is_book ws)
  pub month : T (is_month m)
  pub begins : ClassBegins (facts_of ws) class

abbrev pub expiration_of : ℕ → ℕ → Facts → Expiration
expiration_of c m f = record { from = strikes_place c m f; to = strikes_end c m f }

abbrev pub strike_search_of : ℕ → ℕ → ℕ → Facts → StrikeSearch
strike_search_of c m h f =
    record { at = strike_place c m h f; expiration = has_expiration c m f; standing = is_standing (view_of c f) m h }
