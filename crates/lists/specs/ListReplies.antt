-- Document 01, "Demand 3 is one claim about two whole lists", for callers in C: two lists of calls run and their books
-- compared; the number and the value of the reply. Assumes nothing.
use Rattle.std.specs.Prelude.{ℕ, ◌≡◌, List}
use Rattle.history.specs.declared.Comparison.{Comparison}
use Rattle.history.specs.declared.Comparison.TheVariants.{Equal, Different, BadLength}
use Rattle.history.specs.Comparisons.{Compared}
use Rattle.export.specs.declared.Reply.{Reply}

-- runs of a bad length, or of two lengths, draw 1 as a fresh book does: "refuses 1 on a bad length"
abbrev pub comparison_number : Comparison → ℕ
comparison_number Equal = 0
comparison_number Different = 0
comparison_number BadLength = 1

-- 1 where the two books are equal
abbrev pub comparison_value : Comparison → ℕ
comparison_value Equal = 1
comparison_value Different = 0
comparison_value BadLength = 0

-- two lists run on any words and compared: the comparison that the reply gives, and the words that are left
pub record Replied (left right pool calls others : List ℕ) (r : Reply) (left' right' pool' : List ℕ) : Type 0 where
  pub comparison : Comparison
  pub number_is : r.number ≡ comparison_number comparison
  pub value_is : r.value ≡ comparison_value comparison
  pub compared : Compared left right pool calls others comparison left' right' pool'
