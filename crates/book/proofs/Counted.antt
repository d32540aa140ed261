-- What the counters count, word by word: each class word adds an own class or none, each strike word a strike or none.
-- By induction on series and classes. Assumes nothing.
use Prim.Native.Nat.{ℕ, suc, ◌+◌, ◌-◌, ◌≤◌}
use mathlib.Core.Path.{◌≡◌, refl, ap}
use mathlib.Core.Bool.{Bool, true, false, cond}
use mathlib.Core.List.{List, [], ◌∷◌, map}
use native.Mathlib.Omega.{arith}
use lib.ListN.{length, get_or}
use lib.Dec.{T, eqb}
use Rattle.logic.specs.Lists.{sum, every, only}
use Rattle.logic.proofs.Tests.{ands}
use Rattle.logic.proofs.Lists.{sum_few}
use Rattle.word.specs.Field.{field}
use Rattle.word.specs.Kinds.{strike_kind, ground_field}
use Rattle.word.specs.Codec.{Word, Head, Class, Close, Volume, Expiration, Strike, DayPrice, Counter, Invalid, is_legal, packed, Fits}
use Rattle.word.specs.Programs.{program, is_of}
use Rattle.word.specs.Caps.{own}
use Rattle.word.specs.Counters.{one_of, strike_of}
use Rattle.word.proofs.Words.{kind_in, kind_packed, strike_fields}
use Rattle.word.proofs.RawWords.{fits}
use Rattle.word.proofs.Counters.{one_at_most}
use Rattle.book.specs.Facts.{Series, OpenClass, owned, strikes_on}
use Rattle.book.specs.Layout.{strike_word, expiration_unless, series_words, classes_words}

-- what a word adds to the own classes of the program p, and to its strikes
abbrev pub own_by : ℕ → Word → ℕ
own_by p (Head now k) = 0
own_by p (Class n ds) = own (get_or ds (p - 1) 0)
own_by p (Close price) = 0
own_by p (Volume v) = 0
own_by p (Expiration m) = 0
own_by p (Strike h g a b) = 0
own_by p (DayPrice price) = 0
own_by p (Counter o s) = 0
own_by p Invalid = 0

abbrev pub strike_by : ℕ → Word → ℕ
strike_by p (Head now k) = 0
strike_by p (Class n ds) = 0
strike_by p (Close price) = 0
strike_by p (Volume v) = 0
strike_by p (Expiration m) = 0
strike_by p (Strike h g a b) = one_of g p
strike_by p (DayPrice price) = 0
strike_by p (Counter o s) = 0
strike_by p Invalid = 0

-- ---- packed words

pub strike_packed : (p : ℕ) (x : Word) → Fits x → strike_of p (packed x) ≡ strike_by p x
strike_packed p x small = rw (kind_packed x (packed x) small refl) (go x small)
  where
    go :
        (y : Word) → Fits y
        → cond {A = ℕ} (eqb (kind_in y) strike_kind.number) (one_of (field (packed y) ground_field) p) 0 ≡ strike_by p y
    go (Head now k) f = refl
    go (Class n ds) f = refl
    go (Close price) f = refl
    go (Volume v) f = refl
    go (Expiration m) f = refl
    go (Strike h g a b) f =
        ap (λ (k : ℕ). one_of k p) (strike_fields (packed (Strike h g a b)) h g a b f refl).1
    go (DayPrice price) f = refl
    go (Counter o s) f = refl
    go Invalid f = refl

pub strikes_packed :
    (p : ℕ) (ws : List Word) → T (every is_legal ws) → sum (strike_of p) (map packed ws) ≡ sum (strike_by p) ws
strikes_packed p [] l = refl
strikes_packed p (w ∷ ws) l = λ i. strike_packed p w (fits w (search ands)) i + strikes_packed p ws (search ands) i

-- ---- the words of facts

module _ (p : ℕ) where
  series_own :
      (q : ℕ) (ss : List Series) (rest : List Word) → sum (own_by p) (series_words q ss rest) ≡ sum (own_by p) rest
  series_own q [] rest = refl
  series_own q (s ∷ ss) rest = go (eqb q (suc s.month)) (series_own (suc s.month) ss rest)
    where
      go :
          (b : Bool) → sum (own_by p) (series_words (suc s.month) ss rest) ≡ sum (own_by p) rest
          → sum (own_by p) (expiration_unless b s.month (strike_word s ∷ series_words (suc s.month) ss rest))
          ≡ sum (own_by p) rest
      go true e = omega arith
      go false e = omega arith

  abbrev is_theirs : Series → Bool
  is_theirs s = is_of s.on_ground (program p)

  pub series_strikes :
      (q : ℕ) (ss : List Series) (rest : List Word)
      → sum (strike_by p) (series_words q ss rest) ≡ length (only is_theirs ss) + sum (strike_by p) rest
  series_strikes q [] rest = omega arith
  series_strikes q (s ∷ ss) rest =
      go (eqb q (suc s.month)) (is_theirs s) refl (series_strikes (suc s.month) ss rest)
    where
      go :
          (b t : Bool) → is_theirs s ≡ t
          → sum (strike_by p) (series_words (suc s.month) ss rest)
          ≡ length (only is_theirs ss) + sum (strike_by p) rest
          → sum (strike_by p) (expiration_unless b s.month (strike_word s ∷ series_words (suc s.month) ss rest))
          ≡ length (cond t (s ∷ only is_theirs ss) (only is_theirs ss)) + sum (strike_by p) rest
      go true true d e = rw d (omega arith)
      go true false d e = rw d (omega arith)
      go false true d e = rw d (omega arith)
      go false false d e = rw d (omega arith)

  -- the words of one strike, with its expiration's or without
  pub strike_adds :
      (b : Bool) (m : ℕ) (s : Series)
      → sum (strike_by p) (expiration_unless b m (strike_word s ∷ [])) ≡ one_of s.on_ground p
  strike_adds true m s = omega arith
  strike_adds false m s = omega arith

  pub strike_owns : (b : Bool) (m : ℕ) (s : Series) → sum (own_by p) (expiration_unless b m (strike_word s ∷ [])) ≡ 0
  strike_owns true m s = refl
  strike_owns false m s = refl

  pub words_own : (xs : List OpenClass) → sum (own_by p) (classes_words xs []) ≡ owned p xs
  words_own [] = refl
  words_own (x ∷ xs) = omega (arith, series_own 0 x.series (classes_words xs []), words_own xs)

  pub words_strikes : (xs : List OpenClass) → sum (strike_by p) (classes_words xs []) ≡ strikes_on p xs
  words_strikes [] = refl
  words_strikes (x ∷ xs) = omega (arith, series_strikes 0 x.series (classes_words xs []), words_strikes xs)

  pub strike_few : (x : Word) → strike_by p x ≤ 1
  strike_few (Head now k) = omega arith
  strike_few (Class n ds) = omega arith
  strike_few (Close price) = omega arith
  strike_few (Volume v) = omega arith
  strike_few (Expiration m) = omega arith
  strike_few (Strike h g a b) = one_at_most g p
  strike_few (DayPrice price) = omega arith
  strike_few (Counter o s) = omega arith
  strike_few Invalid = omega arith

  -- there are no more of them than words
  pub strikes_few : (xs : List OpenClass) → strikes_on p xs ≤ length (classes_words xs [])
  strikes_few xs = omega (arith, words_strikes xs, sum_few (strike_by p) strike_few (classes_words xs []))
