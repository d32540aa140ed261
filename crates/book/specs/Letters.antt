-- Document 01, "The calls of a list, as a sheet writes them (letter, then numbers ..)": the call of a letter and its
-- numbers. Assumes nothing.
use Rattle.std.specs.Prelude.{ℕ, cond, List, [], ◌∷◌, eqb}
use Rattle.book.specs.Calls.{ClassCall, Call, call_m, on, call_o, call_c, call_h, call_v, call_d, call_l, call_j, call_x, call_i, call_r, call_a, malformed}

-- the letters of the calls, in ASCII
abbrev pub letter_m : ℕ
letter_m = 77

abbrev pub letter_o : ℕ
letter_o = 79

abbrev pub letter_c : ℕ
letter_c = 67

abbrev pub letter_h : ℕ
letter_h = 72

abbrev pub letter_v : ℕ
letter_v = 86

abbrev pub letter_d : ℕ
letter_d = 68

abbrev pub letter_l : ℕ
letter_l = 76

abbrev pub letter_j : ℕ
letter_j = 74

abbrev pub letter_x : ℕ
letter_x = 88

abbrev pub letter_i : ℕ
letter_i = 73

abbrev pub letter_r : ℕ
letter_r = 82

abbrev pub letter_a : ℕ
letter_a = 65

-- `M m`, `O c`, `R c`
abbrev pub call_of_one : ℕ → ℕ → Call
call_of_one c a =
    cond (eqb c letter_m) (call_m a)
    (cond (eqb c letter_o) (on a call_o) (cond (eqb c letter_r) (on a call_r) malformed))

-- `C c P`, `V c n`, `A c m`
abbrev pub call_of_two : ℕ → ℕ → ℕ → Call
call_of_two c a b =
    cond (eqb c letter_c) (on a (call_c b))
    (cond (eqb c letter_v) (on a (call_v b)) (cond (eqb c letter_a) (on a (call_a b)) malformed))

-- `D c p d`, `L c m h`, `J c m h`, `X c m h`, `H c low high`
abbrev pub call_of_three : ℕ → ℕ → ℕ → ℕ → Call
call_of_three c a b d =
    cond (eqb c letter_d) (on a (call_d b d))
    (cond (eqb c letter_l) (on a (call_l b d))
    (cond (eqb c letter_j) (on a (call_j b d))
    (cond (eqb c letter_x) (on a (call_x b d)) (cond (eqb c letter_h) (on a (call_h b d)) malformed))))

-- `I c m h a b`
abbrev pub call_of_five : ℕ → ℕ → ℕ → ℕ → ℕ → ℕ → Call
call_of_five c a b d e f = cond (eqb c letter_i) (on a (call_i b d e f)) malformed

-- the call of a letter and its numbers; "any other form, is malformed"
unfoldable pub call_of : ℕ → List ℕ → Call
call_of c [] = malformed
call_of c (a ∷ []) = call_of_one c a
call_of c (a ∷ b ∷ []) = call_of_two c a b
call_of c (a ∷ b ∷ d ∷ []) = call_of_three c a b d
call_of c (a ∷ b ∷ d ∷ e ∷ []) = malformed
call_of c (a ∷ b ∷ d ∷ e ∷ f ∷ []) = call_of_five c a b d e f
call_of c (a ∷ b ∷ d ∷ e ∷ f ∷ g ∷ more) = malformed

-- ---- the letter and the numbers of a call

-- how a call is written: its letter in ASCII, and its numbers
pub record Spelling : Type 0 where
  pub letter : ℕ
  pub numbers : List ℕ

-- a call on the class c
abbrev pub spelled_on : ℕ → ClassCall → Spelling
spelled_on c call_o = record { letter = letter_o; numbers = c ∷ [] }
spelled_on c (call_c p) = record { letter = letter_c; numbers = c ∷ p ∷ [] }
spelled_on c (call_h low high) = record { letter = letter_h; numbers = c ∷ low ∷ high ∷ [] }
spelled_on c (call_v n) = record { letter = letter_v; numbers = c ∷ n ∷ [] }
spelled_on c (call_d p d) = record { letter = letter_d; numbers = c ∷ p ∷ d ∷ [] }
spelled_on c (call_l m h) = record { letter = letter_l; numbers = c ∷ m ∷ h ∷ [] }
spelled_on c (call_j m h) = record { letter = letter_j; numbers = c ∷ m ∷ h ∷ [] }
spelled_on c (call_x m h) = record { letter = letter_x; numbers = c ∷ m ∷ h ∷ [] }
spelled_on c (call_i m h a b) = record { letter = letter_i; numbers = c ∷ m ∷ h ∷ a ∷ b ∷ [] }
spelled_on c call_r = record { letter = letter_r; numbers = c ∷ [] }
spelled_on c (call_a m) = record { letter = letter_a; numbers = c ∷ m ∷ [] }

-- any call; a malformed line has no letter
abbrev pub spelled : Call → Spelling
spelled (call_m m) = record { letter = letter_m; numbers = m ∷ [] }
spelled (on c x) = spelled_on c x
spelled malformed = record { letter = 0; numbers = [] }
