-- Document 01, "letter, then numbers without leading zeros, single spaces", "All figures are written in base ten.": the
-- bytes that lines and answers are written in, by their numbers in ASCII. Assumes nothing.
use Rattle.std.specs.Prelude.{ℕ}

-- the byte that ends a line
abbrev pub line_feed : ℕ
line_feed = 10

abbrev pub space : ℕ
space = 32

-- `0`
abbrev pub zero_digit : ℕ
zero_digit = 48

-- `9`
abbrev pub nine_digit : ℕ
nine_digit = 57

-- `A`
abbrev pub first_letter : ℕ
first_letter = 65

-- `Z`
abbrev pub last_letter : ℕ
last_letter = 90

-- "All figures are written in base ten."
abbrev pub base : ℕ
base = 10
