-- Inner: what the judgement of a strike that was looked up asks, and what it answers. Assumes nothing.
use Rattle.std.specs.Prelude.{ℕ, ◌≡◌, List, T, Ok}
use Rattle.word.specs.Answers.{Answer}
use Rattle.word.specs.declared.answer.Accepted.TheVariants.{Ground}
use Rattle.word.specs.declared.class.ClassRecord.{ClassRecord}
use Rattle.word.specs.Limits.{is_month, is_strike}
use Rattle.book.specs.Facts.{is_class_open}
use Rattle.book.specs.Layout.{facts_of}
use Rattle.book.specs.Books.{is_book}
use Rattle.book.specs.Views.{View, class, ground_of}
use Rattle.book.specs.Calls.{first_or, judging}
use Rattle.place.specs.declared.lookup.StrikeSearch.{StrikeSearch}
use Rattle.place.specs.Lookups.{strike_search_of}

-- what can be judged: a strike within its limits that was looked up in an open class with these figures
pub record Sought (ws : List ℕ) (figures : ClassRecord) (found : StrikeSearch) (m h : ℕ) : Type 0 where
  pub book : T (is_book ws)
  pub month : T (is_month m)
  pub strike : T (is_strike h)
  pub number : ℕ
  pub is_open : T (is_class_open number (facts_of ws).classes)
  pub said : figures ≡ (class (facts_of ws) number).figures
  pub place : found ≡ strike_search_of number m h (facts_of ws)

-- what `J` answers within its limits, and `L` where words are left
abbrev pub judged : ℕ → ℕ → View → Answer
judged m h v = first_or (Ok (Ground (ground_of v m h))) (judging m h v)
