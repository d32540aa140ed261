-- Document 01, clause a: "The number, the value and every word of both runs after a call are equated, for all inputs,
-- with what the plain book and the layout above make of them."; "making one ignores what the run held and refuses 1 on
-- a bad length". Assumes nothing.
use Rattle.std.specs.Prelude.{ℕ, ◌≡◌, cond, List, ◌++◌, length, drop, Ok, Err}
use Rattle.word.specs.Answers.{Answer}
use Rattle.word.specs.declared.answer.Accepted.TheVariants.{Done}
use Rattle.word.specs.declared.answer.Refusal.TheVariants.{NotABook}
use Rattle.word.specs.Limits.{is_length}
use Rattle.book.specs.Facts.{fresh}
use Rattle.book.specs.Layout.{layout, facts_of}
use Rattle.book.specs.Books.{is_book}
use Rattle.book.specs.Calls.{Call, answer_to, written, step}

-- the second run with strikes written to its front: "words past the count are unchanged"
abbrev pub over : List ℕ → List ℕ → List ℕ
over strikes v = strikes ++ drop (length strikes) v

-- the call x made on any words w, with the second run v: the answer, and the words w' and v' that it leaves; "1 the run
-- is no book"
pub record Made (x : Call) (w v : List ℕ) (r : Answer) (w' v' : List ℕ) : Type 0 where
  pub answer : r ≡ cond (is_book w) (answer_to (length w) (length v) x (facts_of w)) (Err NotABook)
  pub words : w' ≡ cond (is_book w) (layout (length w) (step (length w) x (facts_of w))) w
  pub second : v' ≡ cond (is_book w) (over (written (length w) (length v) x (facts_of w)) v) v

-- a fresh book made of any words w: "making one ignores what the run held and refuses 1 on a bad length"
pub record Begun (w : List ℕ) (r : Answer) (w' : List ℕ) : Type 0 where
  pub answer : r ≡ cond (is_length (length w)) (Ok Done) (Err NotABook)
  pub words : w' ≡ cond (is_length (length w)) (layout (length w) fresh) w
