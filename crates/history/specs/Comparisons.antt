-- Document 01, "Demand 3 is one claim about two whole lists", executed: each list leaves the words that the layout
-- gives to its facts, and the two books are equal in every word exactly when the same facts stand. Assumes nothing.
use Rattle.std.specs.Prelude.{ℕ, ◌≡◌, Bool, true, false, ◌&&◌, List, map, ◌↔◌, eqb, length}
use Rattle.word.specs.Limits.{is_length}
use Rattle.book.specs.Facts.{Facts, fresh}
use Rattle.book.specs.Layout.{layout}
use Rattle.book.specs.Calls.{after}
use Rattle.book.specs.CallLists.{calls_alone, second_after}
use Rattle.book.specs.Points.{SameFacts}
use Rattle.history.specs.declared.Comparison.{Comparison}
use Rattle.history.specs.declared.Comparison.TheVariants.{Equal, BadLength}
use Rattle.history.specs.Records.{calls_of}
use Rattle.history.specs.ExecutedLists.{lent_within}

-- "the facts that the plain book reads" from the length and the list alone
abbrev pub facts_of_calls : ℕ → List ℕ → Facts
facts_of_calls n calls = after n (calls_alone (calls_of calls))

-- the pool after a list of calls on a fresh book
abbrev pub pool_after : ℕ → List ℕ → List ℕ → List ℕ
pool_after n calls pool = second_after n (map (lent_within (length pool)) (calls_of calls)) fresh pool

-- two runs of n words that two lists of calls have left
pub record Both (n : ℕ) (pool calls others : List ℕ) (r : Comparison) (left' right' pool' : List ℕ) : Type 0 where
  pub left : left' ≡ layout n (facts_of_calls n calls)
  pub right : right' ≡ layout n (facts_of_calls n others)
  pub second : pool' ≡ pool_after n others (pool_after n calls pool)
  pub run : r ≡ BadLength → ⊥
  pub by_words : (r ≡ Equal) ↔ (left' ≡ right')
  pub by_facts : (r ≡ Equal) ↔ (facts_of_calls n calls ≡ facts_of_calls n others)
  pub by_points : (r ≡ Equal) ↔ SameFacts (facts_of_calls n calls) (facts_of_calls n others)

-- both runs are of one length, and it is one that a book can have
abbrev pub are_lengths : ℕ → ℕ → Bool
are_lengths n k = eqb n k && is_length n

-- neither list is run, and every word stays
pub record NotRun (left right pool : List ℕ) (r : Comparison) (left' right' pool' : List ℕ) : Type 0 where
  pub answer : r ≡ BadLength
  pub left_kept : left' ≡ left
  pub right_kept : right' ≡ right
  pub pool_kept : pool' ≡ pool

pub record Compared (left right pool calls others : List ℕ) (r : Comparison)
    (left' right' pool' : List ℕ) : Type 0 where
  pub refused : are_lengths (length left) (length right) ≡ false → NotRun left right pool r left' right' pool'
  pub accepted :
      are_lengths (length left) (length right) ≡ true → Both (length left) pool calls others r left' right' pool'
