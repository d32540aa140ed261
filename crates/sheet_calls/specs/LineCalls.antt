-- Document 01, "An empty line, or any other form, is malformed.": the call that a line is. Assumes nothing.
use Rattle.std.specs.Prelude.{ℕ, cond, ◌&&◌, List, [], ◌∷◌, map, take}
use Rattle.word.specs.Limits.{between}
use Rattle.logic.specs.Lists.{every}
use Rattle.book.specs.Calls.{Call, malformed}
use Rattle.book.specs.Letters.{call_of}
use Rattle.text.specs.declared.line.Line.{Line}
use Rattle.text.specs.Alphabet.{first_letter, last_letter}
use Rattle.text.specs.Grammar.{number_in, is_numeral, first_part, later_parts}

-- the first part is a capital letter, and each later one a numeral
unfoldable pub call_of_parts : List ℕ → List (List ℕ) → Call
call_of_parts [] ts = malformed
call_of_parts (c ∷ []) ts =
    cond (between first_letter last_letter c && every is_numeral ts) (call_of c (map number_in ts)) malformed
call_of_parts (c ∷ d ∷ more) ts = malformed

-- "An empty line, or any other form, is malformed."
abbrev pub call_in : List ℕ → Call
call_in s = call_of_parts (first_part s) (later_parts s)

-- the call of a line that has ended: a line that has not ended well has the letter 0, which names none
abbrev pub call_held : Line → Call
call_held l = call_of l.letter (take l.count l.numbers)
