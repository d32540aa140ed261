-- The words of a book by the classes below, at and above a number, and by the series of a class before, in and after an
-- expiration: from the parts of lists that rise by a key. Assumes nothing.
use Prim.Native.Nat.{ℕ, ◌<◌}
use mathlib.Core.Path.{◌≡◌, refl, sym, ap, ◌∙◌, subst}
use mathlib.Core.Bool.{Bool, true, false, cond, not}
use mathlib.Core.List.{List, [], ◌∷◌, ◌++◌, map, append_assoc}
use native.Mathlib.Omega.{arith}
use lib.Dec.{T, eqb, ltb→lt}
use borrow.Author.Tests.{eq-eqb, ne_eqb}
use Rattle.word.specs.Codec.{Word}
use Rattle.logic.specs.Lists.{every, only}
use Rattle.book.specs.Facts.{OpenClass, Facts, number, is_class_open, class_of, put_class, is_below, in_month}
use Rattle.word.specs.Figures.{figures_words}
use Rattle.book.specs.Layout.{strike_word, expiration_unless, series_words, classes_words, head_words}
use Rattle.book.specs.Books.{is_class, is_well_formed}
use Rattle.book.specs.Views.{class}
use Rattle.book.specs.Places.{has_expiration}
use Rattle.logic.proofs.Tests.{ands}
use Rattle.logic.proofs.Lists.{every_only, ordered, rises_ordered}
use Rattle.book.proofs.Forms.{are_series, well}
use Rattle.book.proofs.ClassLaws.{is_numbered, class_order, number_of}
use Rattle.book.proofs.Layouts.{series_words_append}
use Rattle.logic.proofs.Parts.{every_kept, is_under, is_equal, is_over, distinct_parts, single}
use Rattle.book.proofs.SeriesParts.{month_of, series_words_lem}

-- ---- classes

pub classes_apart :
    (xs ys : List OpenClass) (rest : List Word)
    → classes_words (xs ++ ys) rest ≡ classes_words xs [] ++ classes_words ys rest
classes_apart [] ys rest = refl
classes_apart (x ∷ xs) ys rest =
    ap (λ (l : List Word). figures_words x.figures (series_words 0 x.series l)) (classes_apart xs ys rest)
    ∙ ap (figures_words x.figures) (series_words_append 0 x.series (classes_words xs []) (classes_words ys rest))

-- ---- an open class

class_first : (c : ℕ) (xs ys : List OpenClass) (y : OpenClass) → only (is_equal number c) xs ≡ y ∷ ys
    → class_of c xs ≡ y
class_first c [] ys y e = let z : ◌≡◌ {A = ℕ} 0 1 = cc in absurd (omega arith)
class_first c (x ∷ xs) ys y e = go (eqb (number x) c) e (class_first c xs ys y)
  where
    go :
        (b : Bool) → cond b (x ∷ only (is_equal number c) xs) (only (is_equal number c) xs) ≡ y ∷ ys
        → (only (is_equal number c) xs ≡ y ∷ ys → class_of c xs ≡ y)
        → cond b x (class_of c xs) ≡ y
    go true q r = cc
    go false q r = r q

put_after :
    (y : OpenClass) (xs ys : List OpenClass) (x : OpenClass) → T (every (is_under number (number y)) xs)
    → number x ≡ number y → put_class y (xs ++ (x ∷ ys)) ≡ xs ++ (y ∷ ys)
put_after y [] ys x t e = rw (eq-eqb (number x) (number y) e)
put_after y (z ∷ xs) ys x t e =
    let l : number z < number y = ltb→lt (number z) (number y) (search ands) in
    rw (ne_eqb (number z) (number y) (λ q. omega arith))
    (ap (λ (l : List OpenClass). z ∷ l) (put_after y xs ys x (search ands) e))

pub numbers_rise : (n : ℕ) (f : Facts) → T (is_well_formed n f) → T (ordered is_below f.classes)
numbers_rise n f w = rises_ordered is_numbered is_below class_order f.classes (well n f w).order

module _ (n : ℕ) (f : Facts) (c : ℕ) (w : T (is_well_formed n f)) (o : T (is_class_open c f.classes)) where
  class_at : only (is_equal number c) f.classes ≡ class f c ∷ []
  class_at =
      let s = single number c f.classes (numbers_rise n f w) o in
      s.alone ∙ ap (λ (x : OpenClass). x ∷ []) (sym (class_first c f.classes [] s.it s.alone))

  pub class_good : T (is_class f.now (class f c))
  class_good =
      let t : T (every (is_class f.now) (only (is_equal number c) f.classes)) =
      every_only (is_class f.now) (is_class f.now) (λ x. eqb (number x) c) (λ x k u. u) f.classes
      (well n f w).limits in
      let u = rw class_at at t in
      search ands

  pub series_good : T (are_series f.now (class f c).series)
  series_good = let g = class_good in search ands

  pub class_parts :
      f.classes ≡ only (is_under number c) f.classes ++ (class f c ∷ only (is_over number c) f.classes)
  class_parts =
      distinct_parts number c f.classes (numbers_rise n f w)
      ∙ ap (λ (l : List OpenClass). only (is_under number c) f.classes ++ (l ++ only (is_over number c) f.classes))
      class_at

  -- .. and with another class in its place
  pub class_put :
      (y : OpenClass) → number y ≡ c
      → put_class y f.classes ≡ only (is_under number c) f.classes ++ (y ∷ only (is_over number c) f.classes)
  class_put y e =
      let lower = only (is_under number c) f.classes in
      ap (put_class y) class_parts
      ∙ put_after y lower (only (is_over number c) f.classes) (class f c)
      (subst (λ (k : ℕ). T (every (is_under number k) lower)) (sym e) (every_kept (is_under number c) f.classes))
      (number_of c f.classes ∙ sym e)

  -- the words of the book, by a class
  pub class_words :
      head_words f ++ classes_words f.classes []
      ≡ (head_words f ++ classes_words (only (is_under number c) f.classes) [])
      ++ (figures_words (class f c).figures []
      ++ (series_words 0 (class f c).series [] ++ classes_words (only (is_over number c) f.classes) []))
  class_words =
      let lower = only (is_under number c) f.classes in
      let upper = only (is_over number c) f.classes in
      ap (λ (l : List Word). head_words f ++ l)
      (ap (λ (l : List OpenClass). classes_words l []) class_parts
      ∙ classes_apart lower (class f c ∷ upper) []
      ∙ ap (λ (l : List Word). classes_words lower [] ++ figures_words (class f c).figures l)
      (series_words_append 0 (class f c).series [] (classes_words upper [])))

  -- .. and by an expiration of it
  pub book_words_lem :
      (m : ℕ)
      → head_words f ++ classes_words f.classes []
      ≡ (head_words f ++ classes_words (only (is_under number c) f.classes) [])
      ++ (figures_words (class f c).figures []
      ++ (series_words 0 (only (is_under month_of m) (class f c).series) []
      ++ (expiration_unless (not (has_expiration c m f)) m []
      ++ (map strike_word (in_month m (class f c).series)
      ++ (series_words 0 (only (is_over month_of m) (class f c).series) []
      ++ classes_words (only (is_over number c) f.classes) [])))))
  book_words_lem m =
      class_words
      ∙ ap
      (λ (l : List Word).
      (head_words f ++ classes_words (only (is_under number c) f.classes) [])
      ++ (figures_words (class f c).figures [] ++ (l ++ classes_words (only (is_over number c) f.classes) [])))
      (series_words_lem f.now m (class f c).series series_good [])
      ∙ go (has_expiration c m f)
    where
      early : List Word
      early = series_words 0 (only (is_under month_of m) (class f c).series) []

      strikes : List Word
      strikes = map strike_word (in_month m (class f c).series)

      late : List Word
      late = series_words 0 (only (is_over month_of m) (class f c).series) []

      lower : List Word
      lower = head_words f ++ classes_words (only (is_under number c) f.classes) []

      figures : List Word
      figures = figures_words (class f c).figures []

      upper : List Word
      upper = classes_words (only (is_over number c) f.classes) []

      go :
          (b : Bool)
          → lower ++ (figures ++ ((early ++ expiration_unless (not b) m (strikes ++ late)) ++ upper))
          ≡ lower ++ (figures ++ (early ++ (expiration_unless (not b) m [] ++ (strikes ++ (late ++ upper)))))
      go true = simp append_assoc
      go false = simp append_assoc
