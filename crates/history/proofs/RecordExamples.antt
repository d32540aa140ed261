-- Records read as the calls that they say, computed. Assumes nothing.
use Prim.Native.Nat.{ℕ}
use mathlib.Core.Path.{◌≡◌, refl}
use mathlib.Core.List.{[], ◌∷◌}
use Rattle.book.specs.Calls.{Call, call_m, on, call_o, call_c, call_h, call_v, call_d, call_l, call_j, call_x, call_i, call_r, call_a, malformed}
use Rattle.book.specs.Letters.{call_of}
use Rattle.book.specs.CallLists.{LentCall}
use Rattle.history.specs.Records.{calls_of}

abbrev lent : Call → ℕ → LentCall
lent x room = record { call = x; room = room }

-- document 01's sample calls, `A` with a second run of 512 words; any numbers in the words that a call does not take
sample :
    calls_of
    (77 ∷ 1 ∷ 4 ∷ 0 ∷ 0 ∷ 0 ∷ 0 ∷ 0
    ∷ 79 ∷ 1 ∷ 7 ∷ 0 ∷ 0 ∷ 0 ∷ 0 ∷ 0
    ∷ 67 ∷ 2 ∷ 7 ∷ 200 ∷ 0 ∷ 9 ∷ 0 ∷ 0
    ∷ 68 ∷ 3 ∷ 7 ∷ 1 ∷ 1 ∷ 0 ∷ 9 ∷ 8
    ∷ 65 ∷ 2 ∷ 7 ∷ 5 ∷ 0 ∷ 0 ∷ 9 ∷ 512
    ∷ 76 ∷ 3 ∷ 7 ∷ 5 ∷ 14 ∷ 0 ∷ 0 ∷ 0
    ∷ 76 ∷ 3 ∷ 7 ∷ 5 ∷ 16 ∷ 0 ∷ 0 ∷ 0
    ∷ 76 ∷ 3 ∷ 7 ∷ 5 ∷ 14 ∷ 0 ∷ 0 ∷ 0
    ∷ [])
    ≡ lent (call_m 4) 0
    ∷ lent (on 7 call_o) 0
    ∷ lent (on 7 (call_c 200)) 0
    ∷ lent (on 7 (call_d 1 1)) 8
    ∷ lent (on 7 (call_a 5)) 512
    ∷ lent (on 7 (call_l 5 14)) 0
    ∷ lent (on 7 (call_l 5 16)) 0
    ∷ lent (on 7 (call_l 5 14)) 0
    ∷ []
unfolding call_of calls_of
sample = refl

other_letters :
    calls_of
    (86 ∷ 2 ∷ 1 ∷ 2 ∷ 3 ∷ 4 ∷ 5 ∷ 6
    ∷ 74 ∷ 3 ∷ 1 ∷ 2 ∷ 3 ∷ 4 ∷ 5 ∷ 6
    ∷ 88 ∷ 3 ∷ 1 ∷ 2 ∷ 3 ∷ 4 ∷ 5 ∷ 6
    ∷ 72 ∷ 3 ∷ 1 ∷ 2 ∷ 3 ∷ 4 ∷ 5 ∷ 6
    ∷ 73 ∷ 5 ∷ 1 ∷ 2 ∷ 3 ∷ 4 ∷ 5 ∷ 6
    ∷ 82 ∷ 1 ∷ 1 ∷ 2 ∷ 3 ∷ 4 ∷ 5 ∷ 6
    ∷ [])
    ≡ lent (on 1 (call_v 2)) 6
    ∷ lent (on 1 (call_j 2 3)) 6
    ∷ lent (on 1 (call_x 2 3)) 6
    ∷ lent (on 1 (call_h 2 3)) 6
    ∷ lent (on 1 (call_i 2 3 4 5)) 6
    ∷ lent (on 1 call_r) 6
    ∷ []
unfolding call_of calls_of
other_letters = refl

-- a small letter, and 0
no_letter :
    calls_of (109 ∷ 1 ∷ 4 ∷ 0 ∷ 0 ∷ 0 ∷ 0 ∷ 0 ∷ 0 ∷ 3 ∷ 7 ∷ 5 ∷ 14 ∷ 0 ∷ 0 ∷ 0 ∷ [])
    ≡ lent malformed 0 ∷ lent malformed 0 ∷ []
unfolding call_of calls_of
no_letter = refl

-- no number, one too many, one too few, and more than a record holds, of which it has five
wrong_count :
    calls_of
    (77 ∷ 0 ∷ 4 ∷ 0 ∷ 0 ∷ 0 ∷ 0 ∷ 0
    ∷ 79 ∷ 2 ∷ 7 ∷ 0 ∷ 0 ∷ 0 ∷ 0 ∷ 0
    ∷ 73 ∷ 4 ∷ 7 ∷ 5 ∷ 14 ∷ 0 ∷ 0 ∷ 0
    ∷ 73 ∷ 6 ∷ 7 ∷ 5 ∷ 14 ∷ 0 ∷ 0 ∷ 0
    ∷ [])
    ≡ lent malformed 0 ∷ lent malformed 0 ∷ lent malformed 0 ∷ lent (on 7 (call_i 5 14 0 0)) 0 ∷ []
unfolding call_of calls_of
wrong_count = refl

left_over :
    calls_of (82 ∷ 1 ∷ 7 ∷ 0 ∷ 0 ∷ 0 ∷ 0 ∷ 0 ∷ 77 ∷ 1 ∷ 4 ∷ 0 ∷ 0 ∷ 0 ∷ 0 ∷ []) ≡ lent (on 7 call_r) 0 ∷ []
unfolding call_of calls_of
left_over = refl
