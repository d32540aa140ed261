-- Document 01, "Who draws which number": the fifteen numbers, and request #103, 16; "The lowest number that applies is
-- given.", "An accepted call answers 0 and a value": the number and the value of each answer. Assumes nothing.
use Rattle.std.specs.Prelude.{ℕ, Bool, true, false, Result, Ok, Err}
use Rattle.word.specs.declared.answer.Refusal.{Refusal}
use Rattle.word.specs.declared.answer.Refusal.TheVariants.{NotABook, BeyondLimits, AlreadyOpen, NotOpen, MonthOutside, AlreadyStanding, NotStanding, NoClose, NotQualified, CapReached, OffGrid, OutOfRange, TooClose, OpenInterest, OutOfWords, CloseOutside}
use Rattle.word.specs.declared.answer.Accepted.{Accepted}
use Rattle.word.specs.declared.answer.Accepted.TheVariants.{Done, Ground, Removed, Listed}

abbrev pub refusal_number : Refusal → ℕ
refusal_number NotABook = 1
refusal_number BeyondLimits = 2
refusal_number AlreadyOpen = 3
refusal_number NotOpen = 4
refusal_number MonthOutside = 5
refusal_number AlreadyStanding = 6
refusal_number NotStanding = 7
refusal_number NoClose = 8
refusal_number NotQualified = 9
refusal_number CapReached = 10
refusal_number OffGrid = 11
refusal_number OutOfRange = 12
refusal_number TooClose = 13
refusal_number OpenInterest = 14
refusal_number (OutOfWords count) = 15
refusal_number CloseOutside = 16

-- "The lowest number that applies is given.", and #103: "with 16, tested straight after 8": the place of a refusal in
-- the order of what a call asks; in tens, so that one finds a place between two others
abbrev pub rank : Refusal → ℕ
rank NotABook = 10
rank BeyondLimits = 20
rank AlreadyOpen = 30
rank NotOpen = 40
rank MonthOutside = 50
rank AlreadyStanding = 60
rank NotStanding = 70
rank NoClose = 80
rank CloseOutside = 85
rank NotQualified = 90
rank CapReached = 100
rank OffGrid = 110
rank OutOfRange = 120
rank TooClose = 130
rank OpenInterest = 140
rank (OutOfWords count) = 150

-- "A refusal .. carries value 0 except 15 on `A`", where the count of its strikes is the value
abbrev pub refusal_value : Refusal → ℕ
refusal_value NotABook = 0
refusal_value BeyondLimits = 0
refusal_value AlreadyOpen = 0
refusal_value NotOpen = 0
refusal_value MonthOutside = 0
refusal_value AlreadyStanding = 0
refusal_value NotStanding = 0
refusal_value NoClose = 0
refusal_value NotQualified = 0
refusal_value CapReached = 0
refusal_value OffGrid = 0
refusal_value OutOfRange = 0
refusal_value TooClose = 0
refusal_value OpenInterest = 0
refusal_value (OutOfWords count) = count
refusal_value CloseOutside = 0

-- "An accepted call answers 0 and a value"; a refused one its refusal
abbrev pub Answer : Type 0
Answer = Result Accepted Refusal

abbrev pub answer_number : Answer → ℕ
answer_number (Ok a) = 0
answer_number (Err why) = refusal_number why

-- "the ground for `L` and `J`, strikes removed for `R`, the count for `A`. Other calls carry 0"
abbrev pub accepted_value : Accepted → ℕ
accepted_value Done = 0
accepted_value (Ground g) = g
accepted_value (Removed count) = count
accepted_value (Listed count) = count

abbrev pub answer_value : Answer → ℕ
answer_value (Ok a) = accepted_value a
answer_value (Err why) = refusal_value why

-- whether the call is accepted
abbrev pub is_accepted : Answer → Bool
is_accepted (Ok a) = true
is_accepted (Err why) = false

-- "the count for `A`": how many words a call has written to the front of the second run
abbrev pub strikes_listed : Answer → ℕ
strikes_listed (Ok Done) = 0
strikes_listed (Ok (Ground g)) = 0
strikes_listed (Ok (Removed count)) = 0
strikes_listed (Ok (Listed count)) = count
strikes_listed (Err why) = 0
