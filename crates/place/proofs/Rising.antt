-- The class words of a book rise: each holds less than every later one, so that a search knows from one of them on
-- which side the first from a key on stands. By induction on the classes, and on the words. Assumes nothing.
use Prim.Native.Nat.{ℕ, zero, suc, ◌≤◌, ◌<◌}
use mathlib.Core.Path.{◌≡◌, refl, ap, ap₂}
use mathlib.Core.Bool.{Bool, true, false, cond, not, ◌||◌}
use mathlib.Core.List.{List, [], ◌∷◌, map}
use native.Mathlib.Omega.{arith}
use lib.ListN.{length, get_or}
use lib.Dec.{T, eqb, ltb}
use borrow.Author.Tests.{eqb-true, leb-true, ltb-true, le-leb, lt-leb}
use Rattle.word.specs.declared.kind.Kind.{Kind}
use Rattle.word.specs.Codec.{Word, Class, is_legal, packed}
use Rattle.logic.proofs.Tests.{and_intro, ands, parts, T_true}
use Rattle.word.proofs.Words.{legal_fits, kind_in, kind_packed}
use Rattle.logic.specs.Lists.{every, first_at}
use Rattle.book.specs.Facts.{Series, OpenClass, is_below}
use Rattle.book.specs.Layout.{strike_word, expiration_unless, series_words, classes_words}
use Rattle.logic.proofs.Lists.{every_true, every_at, ordered}
use Rattle.word.specs.Kinds.{is_of_kind, key_of, class_kind}
use Rattle.place.specs.Search.{is_from, Rises}
use Rattle.place.proofs.KeyedWords.{key_in, kind_numbered, key_said}
use Rattle.place.proofs.Laid.{no_class, every_class}

-- ---- words in their order

-- of two words of the kind the first has the lower key
abbrev is_less : Kind → ℕ → ℕ → Bool
is_less kind v w =
    not (is_of_kind kind v) || (not (is_of_kind kind w) || ltb (key_of kind v) (key_of kind w))

module _ (kind : Kind) (key : ℕ) where
  -- a word of the kind that comes later than one from the key on holds more than the key
  later_more :
      (v w : ℕ) → is_from kind key v ≡ true → is_of_kind kind w ≡ true → T (is_less kind v w) → key < key_of kind w
  later_more v w f k t =
      let of : is_of_kind kind v ≡ true = search parts in
      let from : key ≤ key_of kind v = leb-true key (key_of kind v) (search parts) in
      omega (arith, ltb-true (key_of kind v) (key_of kind w) (T_true _ (rw (of, k) at t)))

  below :
      (ws : List ℕ) → T (ordered (is_less kind) ws) → (i : ℕ) → i < length ws → is_of_kind kind (get_or ws i 0) ≡ true
      → key_of kind (get_or ws i 0) < key → i < first_at (is_from kind key) ws
  below [] t i l k h = absurd (omega arith)
  below (w ∷ ws) t zero l k h = rw (k, lt-leb key (key_of kind w) h) (omega arith)
  below (w ∷ ws) t (suc i) l k h = go (is_from kind key w) refl (below ws (search ands) i (omega arith) k h)
    where
      go :
          (b : Bool) → is_from kind key w ≡ b → i < first_at (is_from kind key) ws
          → suc i < cond {A = ℕ} b 0 (suc (first_at (is_from kind key) ws))
      go true f r =
          absurd (omega (
            arith,
            later_more w (get_or ws i 0) f k
                (every_at (is_less kind w) 0 ws i (omega arith) (search ands)),
          ))
      go false f r = omega arith

  equal :
      (ws : List ℕ) → T (ordered (is_less kind) ws) → (i : ℕ) → i < length ws → is_of_kind kind (get_or ws i 0) ≡ true
      → key_of kind (get_or ws i 0) ≡ key → i ≡ first_at (is_from kind key) ws
  equal [] t i l k h = absurd (omega arith)
  equal (w ∷ ws) t zero l k h = rw (k, le-leb key (key_of kind w) (omega arith))
  equal (w ∷ ws) t (suc i) l k h = go (is_from kind key w) refl (equal ws (search ands) i (omega arith) k h)
    where
      go :
          (b : Bool) → is_from kind key w ≡ b → i ≡ first_at (is_from kind key) ws
          → suc i ≡ cond {A = ℕ} b 0 (suc (first_at (is_from kind key) ws))
      go true f r =
          absurd (omega (
            arith,
            later_more w (get_or ws i 0) f k
                (every_at (is_less kind w) 0 ws i (omega arith) (search ands)),
          ))
      go false f r = ap suc r

  pub ordered_rises : (ws : List ℕ) → T (ordered (is_less kind) ws) → Rises kind key ws
  ordered_rises ws t = record { below = below ws t; equal = equal ws t }

-- ---- packed words

-- of two words of the kind the first has the lower key
abbrev is_lower : ℕ → Word → Word → Bool
is_lower kind v w = not (eqb (kind_in v) kind) || (not (eqb (kind_in w) kind) || ltb (key_in v) (key_in w))

module _ (kind : ℕ) where
  less_packed :
      (v w : Word) → is_legal v ≡ true → is_legal w ≡ true
      → is_less (kind_numbered kind) (packed v) (packed w) ≡ is_lower kind v w
  less_packed v w a b =
      rw (kind_packed v (packed v) (legal_fits v a) refl, kind_packed w (packed w) (legal_fits w b) refl)
      (go (eqb (kind_in v) kind) (eqb (kind_in w) kind) refl refl)
    where
      go :
          (x y : Bool) → eqb (kind_in v) kind ≡ x → eqb (kind_in w) kind ≡ y
          → (not x || (not y || ltb (key_of (kind_numbered kind) (packed v)) (key_of (kind_numbered kind) (packed w))))
          ≡ (not x || (not y || ltb (key_in v) (key_in w)))
      go false y d e = refl
      go true false d e = refl
      go true true d e =
          ap₂ ltb (key_said kind v a (eqb-true (kind_in v) kind d)) (key_said kind w b (eqb-true (kind_in w) kind e))

  every_packed :
      (v : Word) → is_legal v ≡ true → (ws : List Word) → T (every is_legal ws) → T (every (is_lower kind v) ws)
      → T (every (is_less (kind_numbered kind) (packed v)) (map packed ws))
  every_packed v a [] legal t = tt
  every_packed v a (w ∷ ws) legal t =
      let lower : T (is_lower kind v w) = search ands in
      let here : T (is_less (kind_numbered kind) (packed v) (packed w)) =
      rw (less_packed v w a (T_true (is_legal w) (search ands))) lower in
      let later = every_packed v a ws (search ands) (search ands) in
      search and_intro

  pub ordered_packed :
      (ws : List Word) → T (every is_legal ws) → T (ordered (is_lower kind) ws)
      → T (ordered (is_less (kind_numbered kind)) (map packed ws))
  ordered_packed [] legal t = tt
  ordered_packed (w ∷ ws) legal t =
      let here = every_packed w (T_true (is_legal w) (search ands)) ws (search ands) (search ands) in
      let later = ordered_packed ws (search ands) (search ands) in
      search and_intro

-- ---- classes

series_ordered :
    (p : ℕ) (ss : List Series) (rest : List Word) → T (ordered (is_lower class_kind.number) rest)
    → T (ordered (is_lower class_kind.number) (series_words p ss rest))
series_ordered p [] rest t = t
series_ordered p (s ∷ ss) rest t = go (eqb p (suc s.month)) (series_ordered (suc s.month) ss rest t)
  where
    after : List Word
    after = series_words (suc s.month) ss rest

    go :
        (b : Bool) → T (ordered (is_lower class_kind.number) after)
        → T (ordered (is_lower class_kind.number) (expiration_unless b s.month (strike_word s ∷ after)))
    go true r = let a = every_true after in search and_intro
    go false r = let a = every_true after in search and_intro

pub classes_ordered :
    (xs : List OpenClass) → T (ordered is_below xs) → T (ordered (is_lower class_kind.number) (classes_words xs []))
classes_ordered [] t = tt
classes_ordered (x ∷ xs) t =
    let after = series_words 0 x.series (classes_words xs []) in
    let test = is_lower class_kind.number (Class x.figures.number x.figures.designations) in
    let above : T (every test after) =
    no_class test (λ w e. rw e tt) 0 x.series (classes_words xs [])
    (every_class test (λ w e. rw e tt) xs (search ands)) in
    let rest = series_ordered 0 x.series (classes_words xs []) (classes_ordered xs (search ands)) in
    let a = every_true after in
    search and_intro
