-- Inner: a line of a sheet read byte by byte: what the state is after each byte, by the phase and the byte.
-- Complete and Sound (proofs) show that the lines of the form are read as written, and no others. Assumes nothing.
use Rattle.std.specs.Prelude.{ℕ, ◌+◌, ◌*◌, ◌-◌, min, cond, List, [], ◌∷◌, set, eqb, ltb, leb}
use Rattle.text.specs.declared.line.Phase.{Phase}
use Rattle.text.specs.declared.line.Phase.TheVariants.{Start, Letter, Space, Zero, Number, Malformed}
use Rattle.text.specs.declared.line.Line.{Line}
use Rattle.text.specs.Alphabet.{space, zero_digit, nine_digit, first_letter, last_letter, base}

-- what stands for every number above the largest limit
abbrev pub number_cap : ℕ
number_cap = 99999999

-- a number as the program keeps it: all that is above the largest limit is one number
abbrev pub capped : ℕ → ℕ
capped v = min v number_cap

-- how many numbers a line keeps: no call has more
abbrev pub numbers_kept : ℕ
numbers_kept = 5

-- no number has ended
abbrev pub zeros : List ℕ
zeros = 0 ∷ 0 ∷ 0 ∷ 0 ∷ 0 ∷ []

-- nothing has been read
abbrev pub empty_line : Line
empty_line = record { phase = Start; letter = 0; value = 0; count = 0; numbers = zeros }

-- what has been read begins no line of the form
abbrev pub malformed_line : Line
malformed_line = record { phase = Malformed; letter = 0; value = 0; count = 0; numbers = zeros }

-- the number that is being read joins those that have ended, of which there are at most as many as a line keeps
abbrev pub push_of : Line → Phase → Line
push_of l p =
    cond (leb numbers_kept l.count) malformed_line
    (record {
      phase = p;
      letter = l.letter;
      value = 0;
      count = l.count + 1;
      numbers = set l.numbers l.count l.value;
    })

-- a line begins with a capital letter
abbrev pub start_of : ℕ → Line
start_of b =
    cond (ltb b first_letter) malformed_line
    (cond (ltb last_letter b) malformed_line
    (record { phase = Letter; letter = b; value = 0; count = 0; numbers = zeros }))

-- after the letter comes a space
abbrev pub letter_of : Line → ℕ → Line
letter_of l b =
    cond (eqb b space)
    (record { phase = Space; letter = l.letter; value = l.value; count = l.count; numbers = l.numbers })
    malformed_line

-- after a space comes a digit
abbrev pub space_of : Line → ℕ → Line
space_of l b =
    cond (ltb b zero_digit) malformed_line
    (cond (ltb nine_digit b) malformed_line
    (cond (eqb b zero_digit)
    (record { phase = Zero; letter = l.letter; value = 0; count = l.count; numbers = l.numbers })
    (record { phase = Number; letter = l.letter; value = b - zero_digit; count = l.count; numbers = l.numbers })))

-- a number that begins with 0 has no digit more
abbrev pub zero_of : Line → ℕ → Line
zero_of l b = cond (eqb b space) (push_of l Space) malformed_line

-- a number goes on with a digit, or ends with a space
abbrev pub number_of : Line → ℕ → Line
number_of l b =
    cond (eqb b space) (push_of l Space)
    (cond (ltb b zero_digit) malformed_line
    (cond (ltb nine_digit b) malformed_line
    (record {
      phase = Number;
      letter = l.letter;
      value = capped (base * l.value + (b - zero_digit));
      count = l.count;
      numbers = l.numbers;
    })))

-- one byte more, by the phase
unfoldable pub feed_by : Phase → Line → ℕ → Line
feed_by Start l b = start_of b
feed_by Letter l b = letter_of l b
feed_by Space l b = space_of l b
feed_by Zero l b = zero_of l b
feed_by Number l b = number_of l b
feed_by Malformed l b = malformed_line

-- the line with one byte more
abbrev pub feed_of : Line → ℕ → Line
feed_of l b = feed_by l.phase l b

-- the end, by the phase
unfoldable pub end_by : Phase → Line → Line
end_by Start l = malformed_line
end_by Letter l = l
end_by Space l = malformed_line
end_by Zero l = push_of l Letter
end_by Number l = push_of l Letter
end_by Malformed l = malformed_line

-- the line at its end
abbrev pub end_of : Line → Line
end_of l = end_by l.phase l

-- the line with each byte in turn
unfoldable pub run_of : Line → List ℕ → Line
run_of l [] = l
run_of l (b ∷ rest) = run_of (feed_of l b) rest

-- a whole line, without its line end
abbrev pub line_of : List ℕ → Line
line_of s = end_of (run_of empty_line s)
