-- The text of a value by its cases, the length of an answer's text by its parts, and stores of a text in two parts.
-- Assumes nothing.
use mathlib.Core.Path.{◌≡◌, ◌∙◌}
use Prim.Native.Nat.{ℕ, ◌+◌}
use native.Mathlib.Omega.{arith}
use mathlib.Core.List.{List, [], ◌∷◌, ◌++◌}
use lib.ListN.{length, length-append}
use lib.Seq.{sets}
use borrow.Author.Tests.{eq-eqb, ne_eqb}
use Rattle.word.specs.Answers.{Answer}
use Rattle.word.specs.Answers.{answer_number}
use Rattle.logic.proofs.Stores.{sets_append}
use Rattle.text.specs.Alphabet.{line_feed}
use Rattle.text.specs.Printing.{decimal, spaced_number, spaced_numbers, value_or_none, after_number, answer_text}
use Rattle.text.proofs.SpacedNumbers.{one_number}

-- the stores of a second part, after those of the first
pub stores_after :
    (out₀ out last a b : List ℕ) (at next : ℕ) → next ≡ at + length a → out ≡ sets out₀ at a → last ≡ sets out next b
    → last ≡ sets out₀ at (a ++ b)
stores_after out₀ out last a b at next place before then = then ∙ rw (before, place, sets_append)

-- a value: none for 0
pub no_value_text : (v : ℕ) → v ≡ 0 → spaced_numbers (value_or_none v) ≡ []
unfolding spaced_numbers value_or_none
no_value_text v h = simp (eq-eqb v 0 h)

pub value_text : (v : ℕ) → (v ≡ 0 → ⊥) → spaced_numbers (value_or_none v) ≡ spaced_number v
unfolding value_or_none
value_text v h = simp (ne_eqb v 0 h) (one_number v)

-- the whole line: the number, what comes after it, and the line end
pub length_whole :
    (answer : Answer) (strikes : List ℕ)
    → length (answer_text answer strikes)
    ≡ length (decimal (answer_number answer)) + length (spaced_numbers (after_number answer strikes)) + 1
unfolding answer_text
length_whole answer strikes =
    let number : List ℕ = decimal (answer_number answer) in
    let rest : List ℕ = spaced_numbers (after_number answer strikes) in
    omega (arith, length-append number (rest ++ (line_feed ∷ [])), length-append rest (line_feed ∷ []))

pub ruleset whole_laws = (length_whole, sets_append)
