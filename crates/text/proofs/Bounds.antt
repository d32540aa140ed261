-- How long a printed line can be: a number that 32 bits hold has at most ten digits, and an answer's number at most
-- two; by the cases of the answer. Assumes nothing.
use Prim.Native.Nat.{ℕ, suc, ◌+◌, ◌*◌, ◌≤◌, ◌<◌}
use mathlib.Core.Logic.{⊎_elim}
use mathlib.Core.Path.{◌≡◌, ap}
use mathlib.Core.Bool.{true, false}
use mathlib.Core.List.{List, [], ◌∷◌}
use native.Mathlib.Omega.{arith}
use lib.Dec.{eqb}
use lib.ListN.{length, get_or, length-append}
use Rattle.std.specs.Prelude.{Ok, Err}
use Rattle.word.specs.declared.answer.Refusal.{Refusal}
use Rattle.word.specs.declared.answer.Refusal.TheVariants.{NotABook, BeyondLimits, AlreadyOpen, NotOpen, MonthOutside, AlreadyStanding, NotStanding, NoClose, NotQualified, CapReached, OffGrid, OutOfRange, TooClose, OpenInterest, OutOfWords, CloseOutside}
use Rattle.word.specs.Answers.{Answer}
use Rattle.word.specs.declared.answer.Accepted.TheVariants.{Done, Ground, Removed, Listed}
use Rattle.word.specs.Answers.{refusal_number, refusal_value, answer_number, answer_value}
use Rattle.text.specs.Printing.{spaced_number, spaced_numbers, value_or_none, after_number, answer_text, strike_room, line_room}
use Rattle.logic.proofs.Tests.{bool_cases}
use Rattle.text.proofs.Decimals.{length_decimal}
use Rattle.text.proofs.SpacedNumbers.{one_number}
use Rattle.text.proofs.AnswerTexts.{length_whole}

-- a number of 32 bits is below it
abbrev pub word_limit : ℕ
word_limit = 4294967296

-- an answer's number is below it
abbrev number_limit : ℕ
number_limit = 100

-- ---- an answer's number has two digits

refusal_below : (why : Refusal) → refusal_number why < number_limit
refusal_below NotABook = omega arith
refusal_below BeyondLimits = omega arith
refusal_below AlreadyOpen = omega arith
refusal_below NotOpen = omega arith
refusal_below MonthOutside = omega arith
refusal_below AlreadyStanding = omega arith
refusal_below NotStanding = omega arith
refusal_below NoClose = omega arith
refusal_below NotQualified = omega arith
refusal_below CapReached = omega arith
refusal_below OffGrid = omega arith
refusal_below OutOfRange = omega arith
refusal_below TooClose = omega arith
refusal_below OpenInterest = omega arith
refusal_below (OutOfWords count) = omega arith
refusal_below CloseOutside = omega arith

number_below : (answer : Answer) → answer_number answer < number_limit
number_below (Ok a) = omega arith
number_below (Err why) = refusal_below why

-- ---- what is printed of it

-- a number of 32 bits, after a space
number_bound : (v : ℕ) → v < word_limit → length (spaced_number v) ≤ strike_room
number_bound v h = omega (arith, length_decimal 9 v (omega arith))

numbers_bound : (vs : List ℕ) → ((k : ℕ) → get_or vs k 0 < word_limit)
    → length (spaced_numbers vs) ≤ strike_room * length vs
unfolding spaced_numbers
numbers_bound [] small = omega arith
numbers_bound (v ∷ vs) small =
    omega (
      arith,
      length-append (spaced_number v) (spaced_numbers vs),
      number_bound v (small 0),
      numbers_bound vs (λ k. small (suc k)),
    )

value_bound : (v : ℕ) → v < word_limit → length (spaced_numbers (value_or_none v)) ≤ strike_room
unfolding value_or_none spaced_numbers
value_bound v h =
    ⊎_elim
    (λ (e : eqb v 0 ≡ true). simp e (omega arith))
    (λ (e : eqb v 0 ≡ false). simp e (omega (arith, ap length (one_number v), number_bound v h)))
    (bool_cases (eqb v 0))

module _ (strikes : List ℕ) (each : (k : ℕ) → get_or strikes k 0 < word_limit) where
  after_bound :
      (answer : Answer) → answer_value answer < word_limit
      → length (spaced_numbers (after_number answer strikes)) ≤ strike_room + strike_room * length strikes
  unfolding after_number spaced_numbers
  after_bound (Ok Done) small = omega arith
  after_bound (Ok (Ground g)) small = omega (arith, ap length (one_number g), number_bound g small)
  after_bound (Ok (Removed count)) small = omega (arith, ap length (one_number count), number_bound count small)
  after_bound (Ok (Listed count)) small =
      omega (
        arith,
        length-append (spaced_number count) (spaced_numbers strikes),
        number_bound count small,
        numbers_bound strikes each,
      )
  after_bound (Err why) small = omega (arith, value_bound (refusal_value why) small)

  pub answer_bound :
      (answer : Answer) → answer_value answer < word_limit
      → length (answer_text answer strikes) ≤ line_room (length strikes)
  answer_bound answer small =
      let few = length_decimal 1 (answer_number answer) (omega (arith, number_below answer)) in
      omega (arith, length_whole answer strikes, few, after_bound answer small)
