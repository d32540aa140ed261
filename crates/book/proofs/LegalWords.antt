-- The words of a series are legal where it is in its limits: by the parts of the test. Assumes nothing.
use Prim.Native.Nat.{ℕ}
use lib.Dec.{T}
use Rattle.word.specs.Codec.{is_legal}
use Rattle.word.specs.Limits.{is_month}
use Rattle.book.specs.Facts.{Series}
use Rattle.book.specs.Layout.{strike_word}
use Rattle.book.specs.Books.{is_series}
use Rattle.logic.proofs.Tests.{and_intro, ands}

pub strike_legal : (now : ℕ) (s : Series) → T (is_series now s) → T (is_legal (strike_word s))
strike_legal now s t = search (ands, and_intro)

pub month_legal : (now : ℕ) (s : Series) → T (is_series now s) → T (is_month s.month)
month_legal now s t = search ands depth 12
