-- Document 01, "prints per line the number, then any value, then `A`'s strikes", "The last line may lack its line
-- end.", of a sheet that comes in pieces: what a reader holds between two bytes, and what it has printed.
-- proofs/Pieces.antt shows that it is what the sheet's lines ask for. Assumes nothing.
use Rattle.std.specs.Prelude.{ℕ, suc, ◌+◌, ◌-◌, ◌≤◌, ◌≡◌, Bool, true, false, cond, ◌&&◌, List, [], ◌∷◌, ◌++◌, T, eqb, ltb, length, take, drop}
use Rattle.std.proofs.lemmas.List.Edits.{sets}
use Rattle.word.specs.Answers.{Answer}
use Rattle.word.specs.Answers.{strikes_listed}
use Rattle.book.specs.Facts.{Facts}
use Rattle.book.specs.Layout.{layout, facts_of}
use Rattle.book.specs.Books.{is_book}
use Rattle.book.specs.Calls.{Call, answer_to, written, step, steps}
use Rattle.book.specs.CallLists.{lent_each, second_after}
use Rattle.book.specs.Made.{over}
use Rattle.text.specs.declared.line.Phase.{Phase}
use Rattle.text.specs.declared.line.Phase.TheVariants.{Start, Letter, Space, Zero, Number, Malformed}
use Rattle.text.specs.declared.line.Line.{Line}
use Rattle.text.specs.Alphabet.{line_feed}
use Rattle.text.specs.Reading.{empty_line, feed_of, end_of}
use Rattle.text.specs.Printing.{answer_text, line_room}
use Rattle.sheet_calls.specs.LineCalls.{call_held}
use Rattle.sheet_calls.specs.declared.piece.PieceProgress.{PieceProgress}
use Rattle.sheet_calls.specs.declared.piece.Lines.{Lines}

-- the line that has not ended, the facts of the book, the second run, and the text that has been printed
pub record Reader : Type 0 where
  pub line : Line
  pub facts : Facts
  pub second : List ℕ
  pub text : List ℕ

-- ---- in a run of n words, with a second run of `room` words

-- the call of the line that ends here
abbrev pub call_ended : Reader → Call
call_ended r = call_held (end_of r.line)

-- the line that is printed for a call on a book of the facts f, in a run of n words and with a second run of `room`
abbrev pub reply_to : (n room : ℕ) → Call → Facts → List ℕ
reply_to n room x f = answer_text (answer_to n room x f) (written n room x f)

-- a call is made, its answer printed, and a line begins
unfoldable pub call_made : (n room : ℕ) → Call → Reader → Reader
call_made n room x r =
    record {
      line = empty_line;
      facts = step n x r.facts;
      second = over (written n room x r.facts) r.second;
      text = r.text ++ reply_to n room x r.facts;
    }

-- one byte more
unfoldable pub byte_read : ℕ → ℕ → Reader → ℕ → Reader
byte_read n room r b =
    cond (eqb b line_feed) (call_made n room (call_ended r) r)
    (record { line = feed_of r.line b; facts = r.facts; second = r.second; text = r.text })

-- the bytes in turn
unfoldable pub bytes_read : ℕ → ℕ → Reader → List ℕ → Reader
bytes_read n room r [] = r
bytes_read n room r (b ∷ bs) = bytes_read n room (byte_read n room r b) bs

-- whether a line has begun
unfoldable pub has_begun : Phase → Bool
has_begun Start = false
has_begun Letter = true
has_begun Space = true
has_begun Zero = true
has_begun Number = true
has_begun Malformed = true

-- "The last line may lack its line end": it ends with the sheet
unfoldable pub last_ended : ℕ → ℕ → Reader → Reader
last_ended n room r = cond (has_begun r.line.phase) (call_made n room (call_ended r) r) r

-- ---- what a list of calls asks for

-- each call's reply in turn
unfoldable pub replies_to : (n room : ℕ) → List Call → Facts → List ℕ
replies_to n room [] f = []
replies_to n room (x ∷ xs) f = reply_to n room x f ++ replies_to n room xs (step n x f)

-- the calls made in turn, from a line that has not begun
abbrev pub calls_made : (n room : ℕ) → List Call → Reader → Reader
calls_made n room xs r =
    record {
      line = empty_line;
      facts = steps n xs r.facts;
      second = second_after n (lent_each room xs) r.facts r.second;
      text = r.text ++ replies_to n room xs r.facts;
    }

-- ---- what is held in the words that are lent

-- how many of the bytes are read where `size` bytes can be printed:
-- up to the first line end whose answer might find no room
unfoldable pub bytes_taken : ℕ → ℕ → ℕ → Reader → List ℕ → ℕ
bytes_taken n room size r [] = 0
bytes_taken n room size r (b ∷ bs) =
    cond {A = ℕ} (eqb b line_feed && ltb size (length r.text + line_room room)) 0
    (suc (bytes_taken n room size (byte_read n room r b) bs))

-- of the bytes s, the first k are taken, and then those that are taken from there on
abbrev pub FirstTaken : ℕ → ℕ → ℕ → Reader → List ℕ → ℕ → Type 0
FirstTaken n room size r s k =
    bytes_taken n room size r s ≡ k + bytes_taken n room size (bytes_read n room r (take k s)) (drop k s)

-- the line that is printed for an answer whose strikes stand at the front of the words v
abbrev pub printed_text : Answer → List ℕ → List ℕ
printed_text r v = answer_text r (take (strikes_listed r) v)

-- the line of the call x ends over the words w of a book, with the second run v:
-- its call is made, and its answer printed from `at` on
pub record Ended (x : Call) (w v out : List ℕ) (at r : ℕ) (w' v' out' : List ℕ) : Type 0 where
  pub book : T (is_book w')
  pub words : w' ≡ layout (length w) (step (length w) x (facts_of w))
  pub second : v' ≡ over (written (length w) (length v) x (facts_of w)) v
  pub printed : out' ≡ sets out at (reply_to (length w) (length v) x (facts_of w))
  pub next : r ≡ at + length (reply_to (length w) (length v) x (facts_of w))
  pub fits : r ≤ length out

-- the words of a book of n words, a second run, the front of `out` and a line hold what the reader r holds
pub record Holds (n : ℕ) (out : List ℕ) (r : Reader) (w' v' out' : List ℕ) (line : Line) (put : ℕ) : Type 0 where
  pub book : T (is_book w')
  pub size : length w' ≡ n
  pub facts_are : facts_of w' ≡ r.facts
  pub words : w' ≡ layout n r.facts
  pub second_is : v' ≡ r.second
  pub line_is : line ≡ r.line
  pub printed : out' ≡ sets out 0 r.text
  pub put_is : put ≡ length r.text
  pub fits : put ≤ length out

-- a line that has begun over the words w of a book, with the second run v: nothing is printed yet
abbrev pub begun : List ℕ → List ℕ → Line → Reader
begun w v line = record { line = line; facts = facts_of w; second = v; text = [] }

-- the words w are a book, `from` is in the piece, `at` bytes of `out` are printed, and `out` could hold one answer
pub record LinesBegin (w v piece : List ℕ) (from : ℕ) (out : List ℕ) (at : ℕ) : Type 0 where
  pub book : T (is_book w)
  pub inside : from ≤ length piece
  pub fits : at ≤ length out
  pub room : line_room (length v) ≤ length out

-- whole lines read from `from` on in a piece, over the words w of a book, with the second run v, where `at` bytes of
-- `out` are printed: what held a reader before them holds it after them, and their bytes are those that are taken first
pub record LinesRead
    (w v piece : List ℕ) (from : ℕ) (out : List ℕ) (at : ℕ) (r : Lines) (w' v' out' : List ℕ) : Type 0 where
  pub book : T (is_book w')
  pub fits : r.put ≤ length out
  pub onward : from ≤ r.read
  pub within : r.read ≤ length piece
  pub holds :
      (front : List ℕ) (before : Reader) → Holds (length w) front before w v out empty_line at
      → Holds (length w) front (bytes_read (length w) (length v) before (take (r.read - from) (drop from piece)))
      w' v' out' empty_line r.put
  pub taken :
      (front : List ℕ) (before : Reader) → Holds (length w) front before w v out empty_line at
      → FirstTaken (length w) (length v) (length out) before (drop from piece) (r.read - from)

-- a piece read over the words w of a book, with the second run v and a line that has begun: how much of it is read,
-- and what is then held
pub record Pieced (w v piece out : List ℕ) (line : Line) (r : PieceProgress) (w' v' out' : List ℕ) : Type 0 where
  pub taken : r.read ≡ bytes_taken (length w) (length v) (length out) (begun w v line) piece
  pub holds :
      Holds (length w) out (bytes_read (length w) (length v) (begun w v line) (take r.read piece))
      w' v' out' r.line r.put
