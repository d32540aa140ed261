-- What each edit of facts makes of their words: new ones in place of old ones, between words that stay; and how many
-- words they then take. By the classes and the series on either side. Assumes nothing.
use Prim.Native.Nat.{ℕ, ◌+◌, ◌-◌, ◌≤◌}
use mathlib.Core.Path.{◌≡◌, refl, sym, ap, ◌∙◌, subst}
use mathlib.Core.Bool.{Bool, true, false, cond, not}
use mathlib.Core.List.{List, [], ◌∷◌, ◌++◌, map, append_assoc}
use native.Mathlib.Omega.{arith}
use lib.ListN.{length, length-append}
use lib.Dec.{T, eqb, ltb, ltb→lt, eqb_refl, not_T}
use Rattle.word.specs.Head.{first_place}
use Rattle.word.specs.declared.class.ClassRecord.{ClassRecord}
use Rattle.word.specs.Class.{opened}
use Rattle.word.specs.Codec.{Word}
use Rattle.logic.specs.Lists.{some, only}
use Rattle.book.specs.Facts.{Series, OpenClass, Facts, number, new_class, is_class_open, insert_class, with_figures, with_series, is_below, is_at, with_marks, insert_series, words_of, words_taken}
use Rattle.word.specs.Figures.{figures_words, figures_length}
use Rattle.book.specs.Layout.{strike_word, expiration_unless, series_words, classes_words, used}
use Rattle.book.specs.Books.{is_series, is_well_formed}
use Rattle.book.specs.Views.{view_of, class, is_standing}
use Rattle.book.specs.Changes.{update, class_opened, strike_added, strike_removed, marks_set}
use Rattle.book.specs.Places.{class_place, has_expiration, expiration_place, strikes_place, strikes_end, strike_place}
use Rattle.logic.proofs.Tests.{T_true}
use Rattle.logic.proofs.Lists.{every_imply, sum_inserted}
use Rattle.book.proofs.Forms.{are_series}
use Rattle.book.proofs.Layouts.{series_words_append, used_taken}
use Rattle.book.proofs.SeriesLaws.{marked_at}
use Rattle.book.proofs.ClassLaws.{number_of}
use Rattle.logic.proofs.Parts.{only_absent, every_kept, some_only, only_both, some_after, inserted_between, is_under, is_equal, is_over, distinct_parts}
use Rattle.book.proofs.SeriesParts.{month_of, strike_of, low, placed, high, around, others, words_before, words_after, length_before, around_words, left_words, alone_words, strike_parts, Stander, stander, placed_words, inserted_around, removed_around, alone_says, marked_around}
use Rattle.book.proofs.ClassWords.{classes_apart, numbers_rise, series_good, class_parts, class_put}

-- the words of g are those of f, with `new` in place of `old` from the index `at` of the run on
pub record Spliced (at : ℕ) (old new : List Word) (f g : Facts) : Type 0 where
  pub front : List Word
  pub back : List Word
  pub place : at ≡ first_place + length front
  pub month : g.now ≡ f.now
  pub was : classes_words f.classes [] ≡ front ++ (old ++ back)
  pub is : classes_words g.classes [] ≡ front ++ (new ++ back)

pub used_spliced :
    {at : ℕ} {old new : List Word} {f g : Facts} → Spliced at old new f g → used g + length old ≡ used f + length new
used_spliced {at} {old} {new} {f} {g} s =
    let a = s.front in
    let b = s.back in
    omega (
      arith,
      ap length s.was ∙ length-append a (old ++ b),
      ap length s.is ∙ length-append a (new ++ b),
      length-append old b,
      length-append new b,
    )

pub place_inside : {at : ℕ} {old new : List Word} {f g : Facts} → Spliced at old new f g → at + length old ≤ used f
place_inside {at} {old} {new} {f} {g} s =
    omega (
      arith,
      s.place,
      ap length s.was ∙ length-append s.front (old ++ s.back),
      length-append old s.back,
    )

-- ---- a class replaced, and a class opened

module _ (n : ℕ) (f : Facts) (c : ℕ) (w : T (is_well_formed n f)) where
  abbrev below : List OpenClass
  below = only (is_under number c) f.classes

  abbrev above : List OpenClass
  above = only (is_over number c) f.classes

  module _ (o : T (is_class_open c f.classes)) where
    -- the class replaced, where `a` is what the words of both begin with
    class_spliced :
        (y : OpenClass) (a old new back : List Word) (at : ℕ) → number y ≡ c → at ≡ class_place c f + length a
        → classes_words (class f c ∷ above) [] ≡ a ++ (old ++ back) → classes_words (y ∷ above) [] ≡ a ++ (new ++ back)
        → Spliced at old new f (update y f)
    class_spliced y a old new back at e place was is =
        let front = classes_words below [] in
        record {
          front = front ++ a;
          back = back;
          place = place ∙ simp length-append (omega arith);
          month = refl;
          was =
              ap (λ (xs : List OpenClass). classes_words xs []) (class_parts n f c w o)
              ∙ classes_apart below (class f c ∷ above) []
              ∙ ap (λ (l : List Word). front ++ l) was
              ∙ sym (append_assoc front a (old ++ back));
          is =
              ap (λ (xs : List OpenClass). classes_words xs []) (class_put n f c w o y e)
              ∙ classes_apart below (y ∷ above) []
              ∙ ap (λ (l : List Word). front ++ l) is
              ∙ sym (append_assoc front a (new ++ back));
        }

    pub figures_spliced :
        (r : ClassRecord) → r.number ≡ c
        → Spliced (class_place c f) (figures_words (class f c).figures []) (figures_words r []) f
        (update (with_figures r (class f c)) f)
    figures_spliced r e =
        class_spliced (with_figures r (class f c)) [] (figures_words (class f c).figures []) (figures_words r [])
        (series_words 0 (class f c).series (classes_words above [])) (class_place c f) e (omega arith) refl refl

    -- the series of the class replaced
    pub series_spliced :
        (ss : List Series)
        → Spliced (class_place c f + figures_length) (series_words 0 (class f c).series []) (series_words 0 ss []) f
        (update (with_series ss (class f c)) f)
    series_spliced ss =
        let r = (class f c).figures in
        class_spliced (with_series ss (class f c)) (figures_words r []) (series_words 0 (class f c).series [])
        (series_words 0 ss [])
        (classes_words above []) (class_place c f + figures_length) (number_of c f.classes) refl
        (ap (figures_words r) (series_words_append 0 (class f c).series [] (classes_words above [])))
        (ap (figures_words r) (series_words_append 0 ss [] (classes_words above [])))

  pub opened_spliced :
      T (not (is_class_open c f.classes))
      → Spliced (class_place c f) [] (figures_words (opened c) []) f (class_opened c f)
  unfolding class_opened
  opened_spliced o =
      let parts : f.classes ≡ below ++ above =
      distinct_parts number c f.classes (numbers_rise n f w)
      ∙ ap (λ (l : List OpenClass). below ++ (l ++ above)) (only_absent (is_equal number c) f.classes o) in
      record {
        front = classes_words below [];
        back = classes_words above [];
        place = refl;
        month = refl;
        was = ap (λ (xs : List OpenClass). classes_words xs []) parts ∙ classes_apart below above [];
        is =
            ap (λ (xs : List OpenClass). classes_words (insert_class (new_class c) xs) []) parts
            ∙ ap (λ (xs : List OpenClass). classes_words xs [])
            (inserted_between is_below (new_class c) below above
            (every_imply (is_under number c) (λ x. not (ltb c (number x)))
            (λ x l. not_T (ltb c (number x)) (λ g. omega (arith, ltb→lt (number x) c l, ltb→lt c (number x) g)))
            below (every_kept (is_under number c) f.classes))
            (every_kept (is_over number c) f.classes))
            ∙ classes_apart below (new_class c ∷ above) [];
      }

-- ---- a strike listed, a strike marked, and a strike delisted

module _ (n : ℕ) (f : Facts) (c : ℕ) (w : T (is_well_formed n f)) (o : T (is_class_open c f.classes)) where
  abbrev series_limits : T (are_series f.now (class f c).series)
  series_limits = series_good n f c w o

  module _ (m h : ℕ) where
    -- y in place of those of x, which stand at m and h
    strike_spliced :
        (x : List Series) (y : Series) (series : List Series) → placed (class f c).series m h ≡ x → y.month ≡ m
        → series ≡ around (class f c).series m h (y ∷ [])
        → Spliced (strike_place c m h f) (map strike_word x)
        (expiration_unless (has_expiration c m f) m (strike_word y ∷ [])) f
        (update (with_series series (class f c)) f)
    strike_spliced x y series e month is =
        let ss = (class f c).series in
        let rest = classes_words (above n f c w) [] in
        let r = (class f c).figures in
        let new = expiration_unless (has_expiration c m f) m (strike_word y ∷ []) in
        class_spliced n f c w o (with_series series (class f c))
        (figures_words r (words_before ss m h (has_expiration c m f))) (map strike_word x) new
        (words_after ss m h rest) (strike_place c m h f) (number_of c f.classes)
        (omega (arith, length_before ss m h (has_expiration c m f)))
        (ap (figures_words r)
        (placed_words ss m h f.now series_limits rest
        ∙ ap (λ (l : List Series). words_before ss m h (has_expiration c m f)
        ++ (map strike_word l ++ words_after ss m h rest)) e))
        (ap (figures_words r)
        (ap (λ (l : List Series). series_words 0 l rest) is ∙ around_words ss m h y rest month))

  pub listed_spliced :
      (s : Series) → T (not (is_standing (view_of c f) s.month s.strike))
      → Spliced (strike_place c s.month s.strike f) []
      (expiration_unless (has_expiration c s.month f) s.month (strike_word s ∷ [])) f
      (update (strike_added s (class f c)) f)
  listed_spliced s new =
      let ss = (class f c).series in
      let none : placed ss s.month s.strike ≡ [] =
      only_both (is_equal month_of s.month) (is_equal strike_of s.strike) ss
      ∙ only_absent (is_at s.month s.strike) ss new in
      strike_spliced s.month s.strike [] s (insert_series s ss) none refl
      (inserted_around ss s.month s.strike f.now series_limits s refl refl none)

  module _ (m h : ℕ) (s : T (is_standing (view_of c f) m h)) where
    one : Stander (class f c).series m h f.now series_limits
    one = stander (class f c).series m h f.now series_limits s

    has : has_expiration c m f ≡ true
    has =
        let ss = (class f c).series in
        sym (some_only (is_equal month_of m) ss)
        ∙ ap (some (is_equal month_of m))
        (strike_parts ss m h f.now series_limits
        ∙ ap (λ (l : List Series). low ss m h ++ (l ++ high ss m h)) one.alone)
        ∙ T_true (some (is_equal month_of m) (low ss m h ++ (one.it ∷ high ss m h)))
        (some_after (is_equal month_of m) (low ss m h) one.it (high ss m h) (rw one.month (eqb_refl m)))

  -- the series that stands at m and h, and its word with new marks
  pub record Marking (m h : ℕ) : Type 0 where
    pub it : Series
    pub limits : T (is_series f.now it)
    pub spliced :
        (a b : ℕ)
        → Spliced (strike_place c m h f) (strike_word it ∷ []) (strike_word (with_marks a b it) ∷ []) f
        (update (marks_set m h a b (class f c)) f)

  pub marking : (m h : ℕ) → T (is_standing (view_of c f) m h) → Marking m h
  marking m h s =
      let ss = (class f c).series in
      let x = one m h s in
      record {
        it = x.it;
        limits = x.limits;
        spliced = λ a b.
            subst
            (λ (b' : Bool).
            Spliced (strike_place c m h f) (strike_word x.it ∷ [])
            (expiration_unless b' m (strike_word (with_marks a b x.it) ∷ [])) f
            (update (marks_set m h a b (class f c)) f))
            (has m h s)
            (strike_spliced m h (x.it ∷ []) (with_marks a b x.it) (map (marked_at m h a b) ss) x.alone x.month
            (marked_around ss m h f.now series_limits x.it a b x.month x.strike x.alone));
      }

  -- .. and taken out; its expiration's word goes with it where it is alone behind that
  pub record Delisting (m h : ℕ) (alone : Bool) : Type 0 where
    pub it : Series
    pub limits : T (is_series f.now it)
    pub spliced :
        Spliced (strike_place c m h f - cond {A = ℕ} alone 1 0)
        (expiration_unless (not alone) m (strike_word it ∷ [])) []
        f
        (update (strike_removed m h (class f c)) f)

  pub delisting :
      (m h : ℕ) (alone : Bool) → T (is_standing (view_of c f) m h)
      → alone ≡ eqb (strikes_end c m f) (strikes_place c m f + 1)
      → Delisting m h alone
  delisting m h alone s e =
      let ss = (class f c).series in
      let x = one m h s in
      let r = (class f c).figures in
      let rest = classes_words (above n f c w) [] in
      let q : others ss m h ≡ not alone =
      go alone (others ss m h) (e ∙ alone_says ss m h f.now series_limits (strikes_place c m f) x.it x.alone) in
      record {
        it = x.it;
        limits = x.limits;
        spliced =
            class_spliced n f c w o (with_series (only (λ u. not (is_at m h u)) ss) (class f c))
            (figures_words r (words_before ss m h (not alone)))
            (expiration_unless (not alone) m (strike_word x.it ∷ [])) []
            (words_after ss m h rest) (strike_place c m h f - cond {A = ℕ} alone 1 0) (number_of c f.classes)
            (place alone)
            (ap (figures_words r)
            (placed_words ss m h f.now series_limits rest
            ∙ (λ i. words_before ss m h (has m h s i) ++ (map strike_word (x.alone i) ++ words_after ss m h rest))
            ∙ alone_words ss m h x.it rest
            ∙ (λ i. words_before ss m h (q i)
            ++ (expiration_unless (q i) m (strike_word x.it ∷ []) ++ words_after ss m h rest))))
            (ap (figures_words r)
            (ap (λ (l : List Series). series_words 0 l rest)
            (removed_around ss m h f.now series_limits x.it x.month x.strike x.alone)
            ∙ left_words ss m h rest
            ∙ (λ i. words_before ss m h (q i) ++ words_after ss m h rest)));
      }
    where
      go : (a b : Bool) → a ≡ not b → b ≡ not a
      go a true e = ap not (sym e)
      go a false e = ap not (sym e)

      at : strike_place c m h f ≡ expiration_place c m f + 1 + length (low (class f c).series m h)
      at = rw (has m h s)

      place :
          (a : Bool)
          → strike_place c m h f - cond {A = ℕ} a 1 0
          ≡ class_place c f + length (figures_words (class f c).figures (words_before (class f c).series m h (not a)))
      place true = omega (arith, at, length_before (class f c).series m h false)
      place false = omega (arith, at, length_before (class f c).series m h true)

-- ---- the words that they take

pub words_opened : (c : ℕ) (f : Facts) → words_taken (class_opened c f) ≡ words_taken f + figures_length
unfolding class_opened
words_opened c f = omega (arith, sum_inserted is_below words_of (new_class c) f.classes)

pub words_listed :
    (n : ℕ) (f : Facts) (c : ℕ) (s : Series) → T (is_well_formed n f) → T (is_class_open c f.classes)
    → T (not (is_standing (view_of c f) s.month s.strike))
    → words_taken (update (strike_added s (class f c)) f)
    ≡ words_taken f + cond {A = ℕ} (has_expiration c s.month f) 1 2
words_listed n f c s good o new =
    let g = update (strike_added s (class f c)) f in
    omega (
      arith,
      used_spliced (listed_spliced n f c good o s new),
      used_taken f,
      used_taken g,
      added (has_expiration c s.month f),
    )
  where
    added : (has : Bool) → length (expiration_unless has s.month (strike_word s ∷ [])) ≡ cond {A = ℕ} has 1 2
    added true = refl
    added false = refl
