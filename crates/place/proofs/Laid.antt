-- What a search finds in the words of a list that rises by a key, of classes and of strikes: it passes the words of the
-- keys below, and stops at the first word after them. And tests that each word of series and of classes passes, by
-- induction on these. Assumes nothing.
use Prim.Native.Nat.{ℕ, suc}
use mathlib.Core.Path.{◌≡◌, refl, sym, ap, ◌∙◌}
use mathlib.Core.Bool.{Bool, true, false, not, ◌&&◌}
use mathlib.Core.List.{List, [], ◌∷◌, ◌++◌, map, map-append}
use native.Mathlib.Omega.{arith}
use lib.ListN.{length}
use lib.Dec.{T, eqb, leb, ltb, leb-zero}
use borrow.Author.Tests.{eq-eqb, le-ltb}
use Rattle.word.specs.Kinds.{kind_of, class_kind, strike_kind}
use Rattle.word.specs.Codec.{Word, Class, Close, Volume, Expiration, DayPrice, is_legal, packed}
use Rattle.word.proofs.Words.{legal_fits, kind_in, kind_packed}
use Rattle.logic.specs.Lists.{every, some, only, first_at}
use Rattle.book.specs.Facts.{Series, OpenClass, number}
use Rattle.book.specs.Layout.{strike_word, expiration_unless, series_words, classes_words}
use Rattle.logic.proofs.Tests.{and_intro, ands, T_true, ltb_not}
use Rattle.logic.proofs.Lists.{every_imply, every_map, every_true}
use Rattle.logic.proofs.Parts.{every_kept, is_under, is_equal, is_over, not_under}
use Rattle.logic.proofs.Splits.{every_split, leads, some_leads}
use Rattle.logic.proofs.Firsts.{first_beyond, first_none}
use Rattle.book.proofs.SeriesParts.{strike_of}
use Rattle.book.proofs.ClassWords.{classes_apart}
use Rattle.place.specs.Search.{is_from}
use Rattle.place.proofs.KeyedWords.{key_in, kind_numbered, is_keyed, from_packed, is_ending}

-- ---- packed words

-- whether the first of the words, packed, passes a test
abbrev pub begins : (ℕ → Bool) → List Word → Bool
begins test [] = false
begins test (w ∷ ws) = test (packed w)

-- a search in packed words is one in the words
module _ (p : ℕ → Bool) (q : Word → Bool) (says : (x : Word) → is_legal x ≡ true → p (packed x) ≡ q x) where
  first_packed : (ws : List Word) → T (every is_legal ws) → first_at p (map packed ws) ≡ first_at q ws
  first_packed [] legal = refl
  first_packed (w ∷ ws) legal = rw (says w (T_true (is_legal w) (search ands)), first_packed ws (search ands))

  -- words that the search passes, then words at whose first it stops
  pub first_after :
      (ws rest : List Word) → T (every is_legal (ws ++ rest)) → T (every (λ w. not (q w)) ws) → first_at q rest ≡ 0
      → first_at p (map packed (ws ++ rest)) ≡ length ws
  first_after ws rest legal none stop =
      let e = first_none q ws none in
      let d = first_beyond q ws rest (omega arith) in
      first_packed (ws ++ rest) legal ∙ omega arith

-- a test of the kinds of packed words is one of the words' kinds
pub kinds_packed :
    (test : ℕ → Bool) (ws : List Word) → T (every is_legal ws) → T (every (λ w. test (kind_in w)) ws)
    → T (every (λ w. test (kind_of w)) (map packed ws))
kinds_packed test [] legal t = tt
kinds_packed test (w ∷ ws) legal t =
    let here : T (test (kind_in w)) = search ands in
    let a : T (test (kind_of (packed w))) =
    rw (kind_packed w (packed w) (legal_fits w (T_true (is_legal w) (search ands))) refl) here in
    let b = kinds_packed test ws (search ands) (search ands) in
    search and_intro

-- ---- the words of a list of keys

-- `lay` gives words to a list, those of an element first one of the kind that holds its key
pub record Laid {A : Type 0} (key : A → ℕ) (kind : ℕ) (lay : List A → List Word) : Type 0 where
  pub first : A → Word
  pub rest : A → List A → List Word
  pub none : lay [] ≡ []
  pub begins : (x : A) (xs : List A) → lay (x ∷ xs) ≡ first x ∷ rest x xs
  pub kinds : (x : A) → kind_in (first x) ≡ kind
  pub keys : (x : A) → key_in (first x) ≡ key x
  pub apart :
      (k : ℕ) (xs ys : List A) → T (every (λ x. ltb (key x) k) xs) → T (every (λ y. leb k (key y)) ys)
      → lay (xs ++ ys) ≡ lay xs ++ lay ys
  pub passed :
      (k : ℕ) (xs : List A) → T (every (λ x. ltb (key x) k) xs) → T (every (λ w. not (is_keyed kind k w)) (lay xs))

module _ {A : Type 0} (key : A → ℕ) (kind : ℕ) (lay : List A → List Word) (laid : Laid key kind lay) where
  stops_there : (k : ℕ) (xs : List A) → T (every (λ x. leb k (key x)) xs) → first_at (is_keyed kind k) (lay xs) ≡ 0
  stops_there k [] t = rw laid.none
  stops_there k (x ∷ xs) t =
      rw (laid.begins x xs, laid.kinds x, laid.keys x, eq-eqb kind kind refl, T_true (leb k (key x)) (search ands))

  pub stops_anywhere : (xs : List A) → first_at (is_keyed kind 0) (lay xs) ≡ 0
  stops_anywhere xs = stops_there 0 xs (from_zero xs)
    where
      from_zero : (ys : List A) → T (every (λ y. leb 0 (key y)) ys)
      from_zero [] = tt
      from_zero (y ∷ ys) = rw (leb-zero (key y)) (from_zero ys)

  -- .. also before other words at which it stops
  pub ends_there :
      (k : ℕ) (xs : List A) (rest : List Word) → T (every (λ x. leb k (key x)) xs)
      → first_at (is_ending kind k) rest ≡ 0
      → first_at (is_ending kind k) (lay xs ++ rest) ≡ 0
  ends_there k [] rest t stop = rw laid.none stop
  ends_there k (x ∷ xs) rest t stop =
      rw (
        laid.begins x xs,
        laid.kinds x,
        laid.keys x,
        le-ltb kind kind (omega arith),
        eq-eqb kind kind refl,
        T_true (leb k (key x)) (search ands),
      )

  -- the first word has the key exactly where the first of the list has it
  begins_there :
      (k : ℕ) (test : ℕ → Bool)
      → ((w : Word) → is_legal w ≡ true → kind_in w ≡ kind → test (packed w) ≡ eqb (key_in w) k)
      → (xs : List A) (rest : List Word) → T (every is_legal (lay xs)) → begins test rest ≡ false
      → begins test (lay xs ++ rest) ≡ leads key k xs
  begins_there k test says [] rest legal other = rw laid.none other
  begins_there k test says (x ∷ xs) rest legal other =
      let legal' = rw (laid.begins x xs) at legal in
      let e = says (laid.first x) (T_true (is_legal (laid.first x)) (search ands)) (laid.kinds x) in
      rw (laid.begins x xs) (e ∙ ap (λ (n : ℕ). eqb n k) (laid.keys x))

  module _
      (k : ℕ) (xs : List A)
      (parts : xs ≡ only (is_under key k) xs ++ (only (is_equal key k) xs ++ only (is_over key k) xs))
      (legal : T (every is_legal (lay xs))) where
    abbrev under : List Word
    under = lay (only (is_under key k) xs)

    abbrev others : List A
    others = only (is_equal key k) xs ++ only (is_over key k) xs

    pub from_there : T (every (λ x. leb k (key x)) others)
    from_there =
        not_under key k (only (is_equal key k) xs) (only (is_over key k) xs) (every_kept (is_equal key k) xs)
        (every_kept (is_over key k) xs)

    pub two_parts : lay xs ≡ under ++ lay others
    two_parts =
        ap lay parts ∙ laid.apart k (only (is_under key k) xs) others (every_kept (is_under key k) xs) from_there

    -- the search stops where the words of the keys below end
    pub sought : first_at (is_from (kind_numbered kind) k) (map packed (lay xs)) ≡ length under
    sought =
        ap (λ (l : List Word). first_at (is_from (kind_numbered kind) k) (map packed l)) two_parts
        ∙ first_after (is_from (kind_numbered kind) k) (is_keyed kind k) (from_packed kind k) under (lay others)
        (rw two_parts at legal)
        (laid.passed k (only (is_under key k) xs) (every_kept (is_under key k) xs)) (stops_there k others from_there)

    -- .. and the word there has the key exactly where one of the list has it
    pub found :
        (test : ℕ → Bool) → ((w : Word) → is_legal w ≡ true → kind_in w ≡ kind → test (packed w) ≡ eqb (key_in w) k)
        → (rest : List Word) → begins test rest ≡ false → begins test (lay others ++ rest) ≡ some (is_equal key k) xs
    found test says rest other =
        begins_there k test says others rest (every_split is_legal under (lay others) (rw two_parts at legal)).1 other
        ∙ sym (some_leads key k xs)

-- ---- series

pub every_series :
    (q : Word → Bool) (p : ℕ) (ss : List Series) (rest : List Word)
    → T (every (λ s. q (strike_word s) && q (Expiration s.month)) ss) → T (every q rest)
    → T (every q (series_words p ss rest))
every_series q p [] rest t u = u
every_series q p (s ∷ ss) rest t u =
    go (eqb p (suc s.month)) (every_series q (suc s.month) ss rest (search ands) u)
  where
    go :
        (b : Bool) → T (every q (series_words (suc s.month) ss rest))
        → T (every q (expiration_unless b s.month (strike_word s ∷ series_words (suc s.month) ss rest)))
    go true r = let a : T (q (strike_word s)) = search ands in search and_intro
    go false r =
        let a : T (q (strike_word s)) = search ands in
        let b : T (q (Expiration s.month)) = search ands in
        search and_intro

pub strikes_laid : Laid strike_of strike_kind.number (map strike_word)
strikes_laid = record {
  first = strike_word;
  rest = λ s ss. map strike_word ss;
  none = refl;
  begins = λ s ss. refl;
  kinds = λ s. refl;
  keys = λ s. refl;
  apart = λ k xs ys a b. map-append strike_word xs ys;
  passed = λ k xs t.
      every_map (λ s. ltb s.strike k) (λ w. not (is_keyed strike_kind.number k w)) strike_word
      (λ s u. ltb_not s.strike k u) xs t;
}

-- ---- classes

-- no word is of a lower kind than a class word
pub class_kinds : (xs : List OpenClass) → T (every (λ w. leb class_kind.number (kind_in w)) (classes_words xs []))
class_kinds [] = tt
class_kinds (x ∷ xs) =
    every_series (λ w. leb class_kind.number (kind_in w)) 0 x.series (classes_words xs []) (every_true x.series)
    (class_kinds xs)

-- a test that each word passes which is no class word
module _ (q : Word → Bool) (other : (w : Word) → eqb (kind_in w) class_kind.number ≡ false → T (q w)) where
  pub no_class : (p : ℕ) (ss : List Series) (rest : List Word) → T (every q rest) → T (every q (series_words p ss rest))
  no_class p ss rest t = every_series q p ss rest (anything ss) t
    where
      anything : (ss : List Series) → T (every (λ s. q (strike_word s) && q (Expiration s.month)) ss)
      anything [] = tt
      anything (s ∷ ss) =
          let a = other (strike_word s) refl in
          let b = other (Expiration s.month) refl in
          let c = anything ss in
          search and_intro

  pub every_class :
      (xs : List OpenClass) → T (every (λ x. q (Class (number x) x.figures.designations)) xs)
      → T (every q (classes_words xs []))
  every_class [] t = tt
  every_class (x ∷ xs) t =
      let a : T (q (Class (number x) x.figures.designations)) = search ands in
      let b = other (Close x.figures.close) refl in
      let c = other (Volume x.figures.volume) refl in
      let d = other (DayPrice x.figures.low) refl in
      let e = other (DayPrice x.figures.high) refl in
      let f = no_class 0 x.series (classes_words xs []) (every_class xs (search ands)) in
      search and_intro

pub classes_laid : Laid number class_kind.number (λ xs. classes_words xs [])
classes_laid = record {
  first = λ x. Class x.figures.number x.figures.designations;
  rest =
      λ x xs.
      Close x.figures.close
      ∷ Volume x.figures.volume
      ∷ DayPrice x.figures.low
      ∷ DayPrice x.figures.high
      ∷ series_words 0 x.series (classes_words xs []);
  none = refl;
  begins = λ x xs. refl;
  kinds = λ x. refl;
  keys = λ x. refl;
  apart = λ k xs ys a b. classes_apart xs ys [];
  passed = λ k xs t.
      every_class (λ w. not (is_keyed class_kind.number k w)) (λ w e. rw e tt) xs
      (every_imply (λ x. ltb (number x) k) (λ x. not (leb k (number x))) (λ x u. ltb_not (number x) k u) xs t);
}
