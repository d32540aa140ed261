-- Document 01, "prints per line the number, then any value, then `A`'s strikes", "All figures are written in base
-- ten.": the bytes that are printed for an answer. Assumes nothing.
use Rattle.std.specs.Prelude.{ℕ, zero, suc, ◌+◌, ◌*◌, ◌/◌, ◌%◌, cond, List, [], ◌∷◌, ◌++◌, eqb, ltb, Ok, Err}
use Rattle.word.specs.Answers.{Answer}
use Rattle.word.specs.declared.answer.Accepted.TheVariants.{Done, Ground, Removed, Listed}
use Rattle.word.specs.Answers.{answer_number, refusal_value}
use Rattle.text.specs.Alphabet.{line_feed, space, zero_digit, base}

-- the digits of a number, the last f + 1 of them at most
unfoldable pub decimal_by : ℕ → ℕ → List ℕ
decimal_by zero v = (zero_digit + v % base) ∷ []
decimal_by (suc f) v = cond (ltb v base) [] (decimal_by f (v / base)) ++ ((zero_digit + v % base) ∷ [])

-- "All figures are written in base ten": the digits of a number, with no zero in front
unfoldable pub decimal : ℕ → List ℕ
decimal v = decimal_by v v

-- a number after a space
abbrev pub spaced_number : ℕ → List ℕ
spaced_number v = space ∷ decimal v

-- each number after a space
unfoldable pub spaced_numbers : List ℕ → List ℕ
spaced_numbers [] = []
spaced_numbers (v ∷ vs) = spaced_number v ++ spaced_numbers vs

-- a value, where it is not 0
unfoldable pub value_or_none : ℕ → List ℕ
value_or_none v = cond (eqb v 0) [] (v ∷ [])

-- what a line has after its number, where `strikes` stand at the front of the second run: "then any value, then `A`'s
-- strikes"; "Other calls carry 0, unprinted."; "a refusal prints its number, and for 15 on `A` the value too": no other
-- refusal has a value but 0
unfoldable pub after_number : Answer → List ℕ → List ℕ
after_number (Ok Done) strikes = []
after_number (Ok (Ground g)) strikes = g ∷ []
after_number (Ok (Removed count)) strikes = count ∷ []
after_number (Ok (Listed count)) strikes = count ∷ strikes
after_number (Err why) strikes = value_or_none (refusal_value why)

-- "prints per line the number, then any value, then `A`'s strikes", and the line end
unfoldable pub answer_text : Answer → List ℕ → List ℕ
answer_text a strikes = decimal (answer_number a) ++ (spaced_numbers (after_number a strikes) ++ (line_feed ∷ []))

-- the bytes that a strike takes at most: a space, and the digits of a number of 32 bits
abbrev pub strike_room : ℕ
strike_room = 11

-- the bytes for the rest of an answer: its number, any value and the line end
abbrev pub answer_room : ℕ
answer_room = 32

-- the bytes that the line of one answer takes at most, with a second run of `room` words
abbrev pub line_room : ℕ → ℕ
line_room room = strike_room * room + answer_room
