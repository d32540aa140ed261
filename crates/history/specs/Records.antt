-- Document 01, "each call's letter and numbers in turn, and for `A` the second run's length", as words: eight words a
-- call, its letter in ASCII, how many numbers it has, five numbers, of which it has the first ones, and the length of
-- the second run that it asks for. Assumes nothing.
use Rattle.std.specs.Prelude.{ℕ, ◌^◌, Bool, List, [], ◌∷◌, ◌++◌, ltb, length, get_or, take}
use Rattle.logic.specs.Lists.{every}
use Rattle.book.specs.CallLists.{LentCall}
use Rattle.book.specs.Letters.{call_of, spelled}

-- how many words a record has
abbrev pub record_length : ℕ
record_length = 8

-- how many numbers a record holds
abbrev pub numbers_held : ℕ
numbers_held = 5

-- ---- the calls of a list

-- "each call's letter and numbers in turn, and for `A` the second run's length"; what names no call is malformed
abbrev pub call_from : (letter count : ℕ) → (numbers : List ℕ) → (room : ℕ) → LentCall
call_from letter count numbers room = record { call = call_of letter (take count numbers); room = room }

-- the call of the words of one record
abbrev pub call_of_record : List ℕ → LentCall
call_of_record l =
    call_from (get_or l 0 0) (get_or l 1 0)
    (get_or l 2 0 ∷ get_or l 3 0 ∷ get_or l 4 0 ∷ get_or l 5 0 ∷ get_or l 6 0 ∷ [])
    (get_or l 7 0)

-- words left over after the last whole record are no call
unfoldable pub calls_of : List ℕ → List LentCall
calls_of [] = []
calls_of (letter ∷ []) = []
calls_of (letter ∷ count ∷ []) = []
calls_of (letter ∷ count ∷ a ∷ []) = []
calls_of (letter ∷ count ∷ a ∷ b ∷ []) = []
calls_of (letter ∷ count ∷ a ∷ b ∷ c ∷ []) = []
calls_of (letter ∷ count ∷ a ∷ b ∷ c ∷ d ∷ []) = []
calls_of (letter ∷ count ∷ a ∷ b ∷ c ∷ d ∷ e ∷ []) = []
calls_of (letter ∷ count ∷ a ∷ b ∷ c ∷ d ∷ e ∷ room ∷ rest) =
    call_from letter count (a ∷ b ∷ c ∷ d ∷ e ∷ []) room ∷ calls_of rest

-- ---- the words of any list

-- the words of a call's record: 0 where it has no number
abbrev pub record_of : LentCall → List ℕ
record_of x =
    let line = spelled x.call in
    let numbers = take numbers_held (line.numbers ++ (0 ∷ 0 ∷ 0 ∷ 0 ∷ 0 ∷ [])) in
    line.letter ∷ length line.numbers ∷ numbers ++ (x.room ∷ [])

abbrev pub records_of : List LentCall → List ℕ
records_of [] = []
records_of (x ∷ xs) = record_of x ++ records_of xs

-- "words of 32 bits"
abbrev pub word_bits : ℕ
word_bits = 32

abbrev pub is_word : ℕ → Bool
is_word k = ltb k (2 ^ word_bits)

-- the numbers of a call, and the length of its second run, fit words
abbrev pub fits_words : LentCall → Bool
fits_words x = every is_word ((spelled x.call).numbers ++ (x.room ∷ []))
