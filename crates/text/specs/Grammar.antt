-- Document 01, "letter, then numbers without leading zeros, single spaces": the lines of this form, and the parts of a
-- line whatever its bytes. Assumes nothing.
use Rattle.std.specs.Prelude.{◌≡◌, ℕ, ◌+◌, ◌*◌, ◌-◌, ◌≤◌, ◌<◌, Bool, false, cond, ◌&&◌, List, [], ◌∷◌, ◌++◌, map, length, eqb}
use Rattle.std.proofs.lemmas.List.Edits.{sets}
use Rattle.word.specs.Limits.{between}
use Rattle.logic.specs.Lists.{every}
use Rattle.text.specs.declared.line.Phase.TheVariants.{Letter}
use Rattle.text.specs.declared.line.Line.{Line}
use Rattle.text.specs.Alphabet.{space, zero_digit, nine_digit, first_letter, last_letter, base}
use Rattle.text.specs.Reading.{capped, zeros}

-- ---- the form, as text

-- each byte is a digit
pub data Digits : List ℕ → Type 0 where
  no_digits : Digits []
  a_digit : {b : ℕ} {ds : List ℕ} → zero_digit ≤ b → b ≤ nine_digit → Digits ds → Digits (b ∷ ds)

-- "numbers without leading zeros"
pub data Numeral : List ℕ → Type 0 where
  lone_zero : Numeral (zero_digit ∷ [])
  leading : {b : ℕ} {ds : List ℕ} → zero_digit < b → b ≤ nine_digit → Digits ds → Numeral (b ∷ ds)

-- each of them is a numeral
pub data Numerals : List (List ℕ) → Type 0 where
  no_numbers : Numerals []
  a_number : {t : List ℕ} {ts : List (List ℕ)} → Numeral t → Numerals ts → Numerals (t ∷ ts)

-- "single spaces": one before each numeral
unfoldable pub spaced : List (List ℕ) → List ℕ
spaced [] = []
spaced (t ∷ ts) = space ∷ (t ++ spaced ts)

-- "letter, then numbers"
abbrev pub line_text : ℕ → List (List ℕ) → List ℕ
line_text c ts = c ∷ spaced ts

-- a line of the form: the text of a capital letter and numerals
pub record Formed (s : List ℕ) (c : ℕ) (ts : List (List ℕ)) : Type 0 where
  pub low : first_letter ≤ c
  pub high : c ≤ last_letter
  pub numerals : Numerals ts
  pub same : s ≡ line_text c ts

-- the number that digits write after v, of any size
unfoldable pub value_from : ℕ → List ℕ → ℕ
value_from v [] = v
value_from v (b ∷ ds) = value_from (base * v + (b - zero_digit)) ds

-- the number that a numeral writes, of any size
abbrev pub number_in : List ℕ → ℕ
number_in t = value_from 0 t

-- ---- the parts of a line, whatever its bytes

-- a byte from `0` to `9`
abbrev pub is_digit : ℕ → Bool
is_digit b = between zero_digit nine_digit b

-- "numbers without leading zeros"
unfoldable pub is_numeral : List ℕ → Bool
is_numeral [] = false
is_numeral (b ∷ []) = is_digit b
is_numeral (b ∷ d ∷ ds) = between (zero_digit + 1) nine_digit b && every is_digit (d ∷ ds)

-- what stands before the first space
unfoldable pub first_part : List ℕ → List ℕ
first_part [] = []
first_part (b ∷ s) = cond (eqb b space) [] (b ∷ first_part s)

-- what stands after each space, up to the next
unfoldable pub later_parts : List ℕ → List (List ℕ)
later_parts [] = []
later_parts (b ∷ s) = cond (eqb b space) (first_part s ∷ later_parts s) (later_parts s)

-- ---- a line as it has been read

-- a number as a line keeps it
abbrev pub held : List ℕ → ℕ
held t = capped (number_in t)

-- what reading a line of the form gives
abbrev pub line_for : ℕ → List (List ℕ) → Line
line_for c ts = record
    { phase = Letter; letter = c; value = 0; count = length ts; numbers = sets zeros 0 (map held ts) }
