-- Document 01, "Its first call gets the fresh book, each later one the book as the call before left it", executed: what
-- `run_calls` leaves of the calls that the list's words hold; a run of a bad length is refused and keeps its words.
-- Assumes nothing.
use Rattle.std.specs.Prelude.{ℕ, min, ◌≡◌, cond, List, map, length, Ok, Err}
use Rattle.word.specs.Answers.{Answer}
use Rattle.word.specs.declared.answer.Accepted.TheVariants.{Done}
use Rattle.word.specs.declared.answer.Refusal.TheVariants.{NotABook}
use Rattle.word.specs.Limits.{is_length}
use Rattle.book.specs.Facts.{fresh}
use Rattle.book.specs.Layout.{layout, facts_of}
use Rattle.book.specs.Calls.{answer_to, written, step, steps, after}
use Rattle.book.specs.Made.{over}
use Rattle.book.specs.CallLists.{LentCall, calls_alone, second_after}
use Rattle.history.specs.Records.{calls_of}

-- the call, lent at most p words
abbrev pub lent_within : ℕ → LentCall → LentCall
lent_within p x = record { call = x.call; room = min x.room p }

-- a call made on a run w that is a book, with as many words of the pool as it asks for, or all: the rest of the pool is
-- not touched
pub record Lent (x : LentCall) (w pool : List ℕ) (r : Answer) (w' pool' : List ℕ) : Type 0 where
  pub answer : r ≡ answer_to (length w) (lent_within (length pool) x).room x.call (facts_of w)
  pub words : w' ≡ layout (length w) (step (length w) x.call (facts_of w))
  pub second : pool' ≡ over (written (length w) (lent_within (length pool) x).room x.call (facts_of w)) pool

-- the calls made in turn on a run w that is a book
pub record MadeInTurn (w pool calls w' pool' : List ℕ) : Type 0 where
  pub words : w' ≡ layout (length w) (steps (length w) (calls_alone (calls_of calls)) (facts_of w))
  pub second : pool' ≡ second_after (length w) (map (lent_within (length pool)) (calls_of calls)) (facts_of w) pool

-- any words w, any pool, and any words `calls` of a list: the answer, and the words w' and pool' that are left. What
-- the facts are follows from the length and the list alone
pub record Ran (w pool calls : List ℕ) (r : Answer) (w' pool' : List ℕ) : Type 0 where
  pub answer : r ≡ cond (is_length (length w)) (Ok Done) (Err NotABook)
  pub words : w' ≡ cond (is_length (length w)) (layout (length w) (after (length w) (calls_alone (calls_of calls)))) w
  pub second :
      pool'
      ≡ cond (is_length (length w))
      (second_after (length w) (map (lent_within (length pool)) (calls_of calls)) fresh pool)
      pool
