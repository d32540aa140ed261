-- Inner: a whole line read number by number: its digits, and what is read of it. proofs/WholeLines.antt shows that it
-- is what the bytes give one by one. Assumes nothing.
use Rattle.std.specs.Prelude.{ℕ, ◌+◌, ◌*◌, ◌-◌, ◌≤◌, ◌≡◌, cond, Option, Some, None, List, [], ◌∷◌, eqb, length, drop, take, set}
use Rattle.text.specs.declared.line.WholeLine.{WholeLine}
use Rattle.text.specs.declared.line.Line.{Line}
use Rattle.text.specs.Alphabet.{zero_digit, base}
use Rattle.text.specs.Reading.{capped, empty_line, malformed_line, run_of, end_of}
use Rattle.text.specs.Grammar.{is_digit}
use Rattle.text.specs.SheetLines.{line_end}

-- a number that goes on with the digits at the front, as the program keeps it, and the bytes after them
unfoldable pub digits_read : ℕ → List ℕ → ℕ × List ℕ
digits_read v [] = (v, [])
digits_read v (b ∷ s) = cond (is_digit b) (digits_read (capped (base * v + (b - zero_digit))) s) (v, b ∷ s)

-- the number without leading zeros that begins at the front, as the program keeps it, and the bytes after it
unfoldable pub numeral_read : List ℕ → Option (ℕ × List ℕ)
numeral_read [] = None
numeral_read (b ∷ s) =
    cond (eqb b zero_digit) (Some (0, s)) (cond (is_digit b) (Some (digits_read (b - zero_digit) s)) None)

-- a line with one number more, where it has room
abbrev pub with_number : Line → ℕ → Line
with_number l number = record {
  phase = l.phase;
  letter = l.letter;
  value = 0;
  count = l.count + 1;
  numbers = set l.numbers l.count number;
}

-- a line that has been read up to the first byte of s goes on in it, and ends at the first line end or with s
abbrev pub line_after : Line → List ℕ → Line
line_after line s = end_of (run_of line (take (line_end s) s))

-- the bytes from the first line end on
abbrev pub line_rest : List ℕ → List ℕ
line_rest s = drop (line_end s) s

-- the line at the front of s is read, where it has the form: how it ends, and the bytes from its end on
pub record FormedRead (s : List ℕ) (line : Line) (rest : List ℕ) : Type 0 where
  pub line_is : line ≡ line_after empty_line s
  pub rest_is : rest ≡ line_rest s

-- the line at the front of s is malformed, and `rest` is left of s where this shows: its end is still to be found there
pub record FormlessRead (s rest : List ℕ) : Type 0 where
  pub line_is : line_after empty_line s ≡ malformed_line
  pub rest_is : line_rest s ≡ line_rest rest
  pub within : length rest ≤ length s

-- a line that has been read up to `from` in a sheet goes on there: how it ends, and where
pub record EndsAfter (line : Line) (sheet : List ℕ) (from : ℕ) (r : WholeLine) : Type 0 where
  pub end_is : r.end ≡ from + line_end (drop from sheet)
  pub within : r.end ≤ length sheet
  pub line_is : r.line ≡ line_after line (drop from sheet)

-- the line that begins at `from` in a sheet, and where it ends
abbrev pub WholeAt : List ℕ → ℕ → WholeLine → Type 0
WholeAt sheet from r = EndsAfter empty_line sheet from r
