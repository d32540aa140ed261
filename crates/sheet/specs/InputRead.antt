-- Document 01, "The sheet program reads standard input over a fresh book of 4,096 words, with a second run of 512":
-- the words that it leaves, by the bytes that were read. Which bytes those are no contract can say. Assumes nothing.
use Rattle.std.specs.Prelude.{ℕ, ◌≤◌, ◌≡◌, List, T, length, take}
use Rattle.book.specs.Facts.{fresh}
use Rattle.book.specs.Layout.{layout, facts_of}
use Rattle.book.specs.Books.{is_book}
use Rattle.book.specs.Calls.{after}
use Rattle.book.specs.CallLists.{lent_each, second_after}
use Rattle.text.specs.declared.line.Line.{Line}
use Rattle.text.specs.Reading.{empty_line}
use Rattle.sheet_calls.specs.Sheets.{calls_in}
use Rattle.sheet_calls.specs.Pieces.{Reader, bytes_read, begun}
use Rattle.sheet.specs.declared.Turn.{Turn}

-- "a fresh book of 4,096 words"
abbrev pub book_length : ℕ
book_length = 4096

-- the words of a book of n words and a second run are what the reader r holds
pub record Left (n : ℕ) (r : Reader) (w' v' : List ℕ) : Type 0 where
  pub words : w' ≡ layout n r.facts
  pub second : v' ≡ r.second

-- the same of words that are a book and of a line that has not ended, whatever the reader has printed
pub record Carried (n : ℕ) (r : Reader) (w' v' : List ℕ) (line : Line) : Type 0 where
  pub book : T (is_book w')
  pub facts_are : facts_of w' ≡ r.facts
  pub left : Left n r w' v'
  pub line_is : line ≡ r.line

-- the bytes s are read over the words w of a book, with the second run v and a line that has begun
abbrev pub AfterBytes : List ℕ → List ℕ → Line → List ℕ → List ℕ → List ℕ → Line → Type 0
AfterBytes w v line s w' v' line' =
    Carried (length w) (bytes_read (length w) (length v) (begun w v line) s) w' v' line'

-- bytes at the front of s are read, and no more, and some line has not ended: what a read or a write that fails leaves
pub record FrontRead (w v : List ℕ) (line : Line) (s w' v' : List ℕ) : Type 0 where
  pub read : ℕ
  pub within : read ≤ length s
  pub next : Line
  pub carried : AfterBytes w v line (take read s) w' v' next

-- one turn: the bytes that were read stand at the front of the input
pub record TurnTaken (w v : List ℕ) (line : Line) (r : Turn) (w' v' input : List ℕ) : Type 0 where
  pub within : r.count ≤ length input
  pub carried : AfterBytes w v line (take r.count input) w' v' r.line

-- all turns, and the bytes that they read
pub record AllRead (w v : List ℕ) (r : Line) (w' v' : List ℕ) : Type 0 where
  pub bytes : List ℕ
  pub carried : AfterBytes w v empty_line bytes w' v' r

-- some turns, the last of which failed: the bytes that were read, and some line that has not ended
pub record SomeRead (w v w' v' : List ℕ) : Type 0 where
  pub line : Line
  pub all : AllRead w v line w' v'

-- a whole sheet over words w that were made a fresh book, with the second run v, and the bytes that were read
pub record SheetRead (w v w' v' : List ℕ) : Type 0 where
  pub bytes : List ℕ
  pub words : w' ≡ layout (length w) (after (length w) (calls_in bytes))
  pub second : v' ≡ second_after (length w) (lent_each (length v) (calls_in bytes)) fresh v
