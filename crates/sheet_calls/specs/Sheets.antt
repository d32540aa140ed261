-- Clause a of document 01, of every line of a sheet over any words (demand 1): the calls of its lines, and what they
-- leave. Assumes nothing.
use Rattle.std.specs.Prelude.{ℕ, ◌<◌, ◌≡◌, cond, List, Option, MatchOption, map, length, drop, Err}
use Rattle.std.proofs.lemmas.List.Edits.{sets}
use Rattle.word.specs.Answers.{Answer}
use Rattle.word.specs.declared.answer.Refusal.TheVariants.{NotABook}
use Rattle.book.specs.Layout.{layout, facts_of}
use Rattle.book.specs.Books.{is_book}
use Rattle.book.specs.Calls.{Call, steps}
use Rattle.book.specs.CallLists.{lent_each, answers_to, told, second_after}
use Rattle.text.specs.declared.line.Line.{Line}
use Rattle.text.specs.Reading.{line_of}
use Rattle.text.specs.SheetLines.{lines_of, line_at, next_line}
use Rattle.sheet_calls.specs.LineCalls.{call_in}
use Rattle.sheet_calls.specs.declared.sheet.LinesLeft.{LinesLeft}

-- the calls of a sheet
abbrev pub calls_in : List ℕ → List Call
calls_in sheet = map call_in (lines_of sheet)

-- each call's answer, over any words w and with a second run of `room` words; "1 the run is no book": each draws it
abbrev pub answers_over : List ℕ → ℕ → List Call → List Answer
answers_over w room xs =
    cond (is_book w) (answers_to (length w) (lent_each room xs) (facts_of w)) (map (λ x. Err NotABook) xs)

-- the words that calls leave, over any words
abbrev pub words_after : List ℕ → List Call → List ℕ
words_after w xs = cond (is_book w) (layout (length w) (steps (length w) xs (facts_of w))) w

-- the words of the second run v that calls leave, over any words
abbrev pub second_over : List ℕ → List Call → List ℕ → List ℕ
second_over w xs v = cond (is_book w) (second_after (length w) (lent_each (length v) xs) (facts_of w) v) v

-- the first line of the bytes that are left of a sheet, where there is one, and the bytes after it
abbrev pub FirstLine : LinesLeft → Option Line → LinesLeft → Type 0
FirstLine s r t =
    MatchOption r ((length s.0.now ≡ 0) × (t ≡ s))
    (λ l. (0 < length s.0.now) × (l ≡ line_of (line_at s.0.now 0)) × (t.0.now ≡ drop (next_line s.0.now 0) s.0.now))

-- a sheet read over any words w, with a second run v: how many lines it has, and the words that are left. The answers
-- are written as far as `answers` has places for them
pub record SheetRun (w v sheet answers : List ℕ) (r : ℕ) (w' v' answers' : List ℕ) : Type 0 where
  pub lines : r ≡ length (lines_of sheet)
  pub answered : answers' ≡ sets answers 0 (told (answers_over w (length v) (calls_in sheet)))
  pub words : w' ≡ words_after w (calls_in sheet)
  pub second : v' ≡ second_over w (calls_in sheet) v
