-- Document 01's own lines, and those of request #103: what they are as calls, lines of no form, and what is printed;
-- each computes. Assumes nothing.
use mathlib.Core.Path.{◌≡◌, refl}
use mathlib.Core.List.{[], ◌∷◌}
use Rattle.std.specs.Prelude.{Ok, Err}
use Rattle.word.specs.declared.answer.Accepted.TheVariants.{Done, Ground, Listed}
use Rattle.word.specs.declared.answer.Refusal.TheVariants.{AlreadyStanding, OutOfRange, OutOfWords, CloseOutside}
use Rattle.book.specs.Calls.{call_m, on, call_h, call_l, call_a, malformed}
use Rattle.book.specs.Letters.{call_of}
use Rattle.text.specs.Grammar.{first_part, later_parts, is_numeral, value_from}
use Rattle.text.specs.Printing.{decimal_by, decimal, spaced_numbers, value_or_none, after_number, answer_text}
use Rattle.sheet_calls.specs.LineCalls.{call_in, call_of_parts}

-- `M 4`
line_m : call_in (77 ∷ 32 ∷ 52 ∷ []) ≡ call_m 4
unfolding call_of call_of_parts first_part later_parts is_numeral value_from
line_m = refl

-- `A 7 5`
line_a : call_in (65 ∷ 32 ∷ 55 ∷ 32 ∷ 53 ∷ []) ≡ on 7 (call_a 5)
unfolding call_of call_of_parts first_part later_parts is_numeral value_from
line_a = refl

-- `L 7 5 14`
line_l : call_in (76 ∷ 32 ∷ 55 ∷ 32 ∷ 53 ∷ 32 ∷ 49 ∷ 52 ∷ []) ≡ on 7 (call_l 5 14)
unfolding call_of call_of_parts first_part later_parts is_numeral value_from
line_l = refl

-- #103: `H 7 190 210`
line_h : call_in (72 ∷ 32 ∷ 55 ∷ 32 ∷ 49 ∷ 57 ∷ 48 ∷ 32 ∷ 50 ∷ 49 ∷ 48 ∷ []) ≡ on 7 (call_h 190 210)
unfolding call_of call_of_parts first_part later_parts is_numeral value_from
line_h = refl

-- an empty line
line_empty : call_in [] ≡ malformed
unfolding call_of_parts first_part later_parts
line_empty = refl

-- `M 04`: a leading zero
line_leading_zero : call_in (77 ∷ 32 ∷ 48 ∷ 52 ∷ []) ≡ malformed
unfolding call_of call_of_parts first_part later_parts is_numeral value_from
line_leading_zero = refl

-- `M  4`: two spaces
line_two_spaces : call_in (77 ∷ 32 ∷ 32 ∷ 52 ∷ []) ≡ malformed
unfolding call_of call_of_parts first_part later_parts is_numeral value_from
line_two_spaces = refl

-- `M 4 `: a space at the end
line_last_space : call_in (77 ∷ 32 ∷ 52 ∷ 32 ∷ []) ≡ malformed
unfolding call_of call_of_parts first_part later_parts is_numeral value_from
line_last_space = refl

-- `0`
printed_done : answer_text (Ok Done) [] ≡ 48 ∷ 10 ∷ []
unfolding decimal_by decimal spaced_numbers after_number answer_text
printed_done = refl

-- `0 7 2 4 6 8 10 12 14`
printed_listed : answer_text (Ok (Listed 7)) (2 ∷ 4 ∷ 6 ∷ 8 ∷ 10 ∷ 12 ∷ 14 ∷ [])
    ≡ 48 ∷ 32 ∷ 55 ∷ 32 ∷ 50 ∷ 32 ∷ 52 ∷ 32 ∷ 54 ∷ 32 ∷ 56 ∷ 32 ∷ 49 ∷ 48 ∷ 32 ∷ 49 ∷ 50 ∷ 32 ∷ 49 ∷ 52 ∷ 10 ∷ []
unfolding decimal_by decimal spaced_numbers after_number answer_text
printed_listed = refl

-- `0 1`
printed_ground : answer_text (Ok (Ground 1)) [] ≡ 48 ∷ 32 ∷ 49 ∷ 10 ∷ []
unfolding decimal_by decimal spaced_numbers after_number answer_text
printed_ground = refl

-- `12`
printed_out_of_range : answer_text (Err OutOfRange) [] ≡ 49 ∷ 50 ∷ 10 ∷ []
unfolding decimal_by decimal spaced_numbers value_or_none after_number answer_text
printed_out_of_range = refl

-- `6`
printed_standing : answer_text (Err AlreadyStanding) [] ≡ 54 ∷ 10 ∷ []
unfolding decimal_by decimal spaced_numbers value_or_none after_number answer_text
printed_standing = refl

-- #103: `16`
printed_close_outside : answer_text (Err CloseOutside) [] ≡ 49 ∷ 54 ∷ 10 ∷ []
unfolding decimal_by decimal spaced_numbers value_or_none after_number answer_text
printed_close_outside = refl

-- `15 30`: "for 15 on `A` the value too"
printed_out_of_words : answer_text (Err (OutOfWords 30)) [] ≡ 49 ∷ 53 ∷ 32 ∷ 51 ∷ 48 ∷ 10 ∷ []
unfolding decimal_by decimal spaced_numbers value_or_none after_number answer_text
printed_out_of_words = refl
