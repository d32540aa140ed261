-- The words of a class whose earlier months go: those of its figures and of the months from m on, where the search for
-- what stays and the search for the next class stop. Assumes nothing.
use Prim.Native.Nat.{ℕ, ◌+◌, ◌^◌, ◌<◌}
use mathlib.Core.Path.{◌≡◌, refl, sym, ap, ◌∙◌, subst}
use mathlib.Core.Bool.{Bool, not}
use mathlib.Core.List.{List, [], ◌∷◌, ◌++◌, map}
use native.Mathlib.Omega.{arith}
use lib.ListN.{length}
use lib.Dec.{T, leb, ltb→lt, leb-zero, eqb-zero-suc}
use borrow.Author.Tests.{lt-leb}
use Rattle.word.specs.Kinds.{kind_field, class_kind, expiration_kind}
use Rattle.word.specs.Codec.{Word, is_legal, packed}
use Rattle.logic.specs.Lists.{every, only, sum, first_at}
use Rattle.book.specs.Facts.{Series, in_month, OpenClass, number, with_series, owned, strikes_on}
use Rattle.word.specs.Figures.{figures_words}
use Rattle.book.specs.Layout.{series_words, classes_words}
use Rattle.book.specs.Books.{is_class}
use Rattle.logic.proofs.Tests.{ands, T_true, true_T, ltb_not}
use Rattle.logic.proofs.Lists.{every_imply, every_true, sum_append}
use Rattle.book.proofs.Forms.{are_series}
use Rattle.book.proofs.Counted.{strike_by, words_strikes}
use Rattle.book.proofs.Layouts.{series_words_append, words_legal}
use Rattle.logic.proofs.Parts.{every_kept, is_under, is_equal, is_over, not_under}
use Rattle.logic.proofs.Splits.{every_split}
use Rattle.book.proofs.SeriesParts.{month_of, month_parts, series_apart}
use Rattle.place.specs.Search.{is_up_to}
use Rattle.place.proofs.KeyedWords.{is_ending, up_to_packed}
use Rattle.place.proofs.Laid.{first_after, every_series}

-- ---- the search for the next class

-- a class word, or one of a lower kind
abbrev is_class_word : Word → Bool
is_class_word w = is_ending class_kind.number 0 w

next_class :
    (ss : List Series) (xs : List OpenClass) → T (every is_legal (series_words 0 ss [] ++ classes_words xs []))
    → first_at (is_up_to class_kind 0) (map packed (series_words 0 ss [] ++ classes_words xs []))
    ≡ length (series_words 0 ss [])
next_class ss xs legal =
    first_after (is_up_to class_kind 0) is_class_word (up_to_packed class_kind.number 0 (omega arith) (omega arith))
    (series_words 0 ss []) (classes_words xs []) legal
    (every_series (λ w. not (is_class_word w)) 0 ss [] (every_true ss) tt) (stops xs)
  where
    stops : (ys : List OpenClass) → first_at is_class_word (classes_words ys []) ≡ 0
    stops [] = refl
    stops (y ∷ ys) = rw (leb-zero (number y))

-- ---- series by month

module _ (m : ℕ) where
  abbrev is_later : Series → Bool
  is_later s = leb m s.month

  abbrev later : List Series → List Series
  later ss = only is_later ss

  -- series of earlier months, then others
  later_after :
      (earlier ss : List Series) → T (every (is_under month_of m) earlier) → T (every is_later ss)
      → later (earlier ++ ss) ≡ ss
  later_after [] [] t u = refl
  later_after [] (s ∷ ss) t u =
      rw (T_true (is_later s) (search ands)) (ap (λ (l : List Series). s ∷ l) (later_after [] ss tt (search ands)))
  later_after (s ∷ earlier) ss t u =
      rw (lt-leb m s.month (ltb→lt s.month m (search ands))) (later_after earlier ss (search ands) u)

  -- series that rise by month are those before m, then those from m on
  two_parts : (now : ℕ) (ss : List Series) → T (are_series now ss) → ss ≡ only (is_under month_of m) ss ++ later ss
  two_parts now ss good =
      let earlier = only (is_under month_of m) ss in
      let here = in_month m ss in
      let after = only (is_over month_of m) ss in
      let parts = month_parts now m ss good in
      let from =
      not_under month_of m here after (every_kept (is_equal month_of m) ss) (every_kept (is_over month_of m) ss) in
      parts
      ∙ ap (λ (l : List Series). earlier ++ l)
      (sym (ap later parts ∙ later_after earlier (here ++ after) (every_kept (is_under month_of m) ss) from))

  -- ---- the search for what stays

  -- the word of an expiration from m on, or one of a lower kind
  abbrev is_later_word : Word → Bool
  is_later_word w = is_ending expiration_kind.number m w

  passes_earlier :
      (ss : List Series) → T (every (is_under month_of m) ss)
      → T (every (λ w. not (is_later_word w)) (series_words 0 ss []))
  passes_earlier ss t =
      every_series (λ w. not (is_later_word w)) 0 ss []
      (every_imply (is_under month_of m) (λ s. not (leb m s.month)) (λ s u. ltb_not s.month m u) ss t) tt

  stops_later :
      (ss : List Series) (xs : List OpenClass) → T (every is_later ss)
      → first_at is_later_word (series_words 0 ss (classes_words xs [])) ≡ 0
  stops_later [] [] t = refl
  stops_later [] (x ∷ xs) t = refl
  stops_later (s ∷ ss) xs t = rw (eqb-zero-suc s.month, T_true (is_later s) (search ands))

  -- ---- the first of some classes

  abbrev pub kept_from : OpenClass → OpenClass
  kept_from x = with_series (later x.series) x

  -- the words of the class x before the classes xs: its own, those that go, those that stay
  pub record ClassParts (x : OpenClass) (xs : List OpenClass) : Type 0 where
    pub going : List Word
    pub staying : List Word
    pub are : classes_words (x ∷ xs) [] ≡ figures_words x.figures [] ++ (going ++ (staying ++ classes_words xs []))
    pub left :
        classes_words (map kept_from (x ∷ xs)) []
        ≡ figures_words x.figures [] ++ (staying ++ classes_words (map kept_from xs) [])
    pub stays : first_at (is_up_to expiration_kind m) (map packed (going ++ (staying ++ classes_words xs [])))
        ≡ length going
    pub next : first_at (is_up_to class_kind 0) (map packed (staying ++ classes_words xs [])) ≡ length staying
    pub legal : T (every is_legal going)
    -- of the strikes of any program those that go are counted once
    pub counted :
        (p : ℕ)
        → strikes_on p (x ∷ xs) + strikes_on p (map kept_from xs)
        ≡ sum (strike_by p) going + (strikes_on p (map kept_from (x ∷ xs)) + strikes_on p xs)

  pub class_parts :
      m < 2 ^ kind_field.low → (now : ℕ) (x : OpenClass) (xs : List OpenClass) → T (every (is_class now) (x ∷ xs))
      → ClassParts x xs
  class_parts small now x xs good =
      let ss = x.series in
      let rest = classes_words xs [] in
      let figures = figures_words x.figures [] in
      let earlier = only (is_under month_of m) ss in
      let before = every_kept (is_under month_of m) ss in
      let going = series_words 0 earlier [] in
      let staying = series_words 0 (later ss) [] in
      let kept : T (every is_later (later ss)) = every_kept is_later ss in
      let series : series_words 0 ss rest ≡ going ++ series_words 0 (later ss) rest =
      ap (λ (l : List Series). series_words 0 l rest) (two_parts now ss (search ands))
      ∙ series_apart 0 m earlier (later ss) rest (omega arith) before kept in
      let apart = series_words_append 0 (later ss) [] rest in
      let are : classes_words (x ∷ xs) [] ≡ figures ++ (going ++ (staying ++ rest)) =
      ap (λ (l : List Word). figures ++ l) (series ∙ ap (λ (l : List Word). going ++ l) apart) in
      let legal : T (every is_legal (going ++ (staying ++ rest))) =
      (every_split is_legal figures (going ++ (staying ++ rest))
      (subst (λ (l : List Word). T (every is_legal l)) are
      (true_T (every is_legal (classes_words (x ∷ xs) [])) (words_legal now (x ∷ xs) good)))
      ).1 in
      let left :
      classes_words (map kept_from (x ∷ xs)) [] ≡ figures ++ (staying ++ classes_words (map kept_from xs) []) =
      ap (λ (l : List Word). figures ++ l)
      (series_words_append 0 (later ss) [] (classes_words (map kept_from xs) [])) in
      record {
        going = going;
        staying = staying;
        are = are;
        left = left;
        stays =
            first_after (is_up_to expiration_kind m) is_later_word
            (up_to_packed expiration_kind.number m small (omega arith)) going (staying ++ rest) legal
            (passes_earlier earlier before) (ap (first_at is_later_word) (sym apart) ∙ stops_later (later ss) xs kept);
        next = next_class (later ss) xs (every_split is_legal going (staying ++ rest) legal).1;
        legal = (every_split is_legal going (staying ++ rest) legal).0;
        counted = λ p.
            let adds = strike_by p in
            omega (
              arith,
              words_strikes p (x ∷ xs),
              words_strikes p xs,
              words_strikes p (map kept_from (x ∷ xs)),
              words_strikes p (map kept_from xs),
              ap (sum adds) are ∙ sum_append adds figures (going ++ (staying ++ rest)),
              sum_append adds going (staying ++ rest),
              sum_append adds staying rest,
              ap (sum adds) left ∙ sum_append adds figures (staying ++ classes_words (map kept_from xs) []),
              sum_append adds staying (classes_words (map kept_from xs) []),
            );
      }

  -- no own class goes
  pub kept_own : (p : ℕ) (xs : List OpenClass) → owned p (map kept_from xs) ≡ owned p xs
  kept_own p [] = refl
  kept_own p (x ∷ xs) = omega (arith, kept_own p xs)
