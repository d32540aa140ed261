-- The words of a run at the places of an open class and its expirations: from the words of the book by their parts.
-- Assumes nothing.
use Prim.Native.Nat.{ℕ, ◌+◌, ◌-◌, ◌≤◌, ◌<◌}
use mathlib.Core.Path.{◌≡◌, refl, sym, ap, ◌∙◌}
use mathlib.Core.Bool.{Bool, true, false, cond, not, or-false}
use mathlib.Core.List.{List, [], ◌∷◌, ◌++◌, map, map-append, append_assoc}
use native.Mathlib.Omega.{arith}
use lib.ListN.{length, take, drop, get_or, replicate, length-append, length-map}
use lib.Seq.{take_at, drop_at, get_or-append-add}
use lib.Dec.{T, eqb, ltb}
use borrow.Author.Tests.{ltb-true, ltb-false, lt-ltb, le-ltb}
use Rattle.word.specs.Codec.{Word, packed}
use Rattle.word.specs.Strikes.{marks, is_marked_in}
use Rattle.word.proofs.Words.{strike_fields}
use Rattle.logic.specs.Lists.{every, some, only}
use Rattle.rule.specs.Spacing.{standing_of}
use Rattle.book.specs.Facts.{Series, Facts, number, is_class_open, is_at, is_marked, in_month}
use Rattle.word.specs.Figures.{figures_words}
use Rattle.book.specs.Layout.{strike_word, expiration_unless, series_words, classes_words, used, head_words, layout}
use Rattle.book.specs.Books.{is_series, is_well_formed}
use Rattle.book.specs.Views.{view_of, class, is_standing, has_open_interest, standing_in}
use Rattle.book.specs.Places.{has_expiration, strikes_place, strikes_end, strike_place}
use Rattle.logic.proofs.Tests.{ands}
use Rattle.word.proofs.RawWords.{fits}
use Rattle.book.proofs.LegalWords.{strike_legal}
use Rattle.logic.proofs.Lists.{every_only, length_only}
use Rattle.book.proofs.Forms.{are_series, well}
use Rattle.book.proofs.Layouts.{used_taken}
use Rattle.logic.proofs.Parts.{only_both, some_both, is_under, is_equal, is_over}
use Rattle.book.proofs.SeriesParts.{month_of, strike_of, low, high, strike_parts, Stander, stander}
use Rattle.logic.proofs.Splits.{some_length}
use Rattle.book.proofs.ClassWords.{series_good, book_words_lem}

-- ---- words of a run by what stands before them

module _ (n : ℕ) (f : Facts) where
  abbrev pub book_words : List Word
  book_words = head_words f ++ classes_words f.classes []

  pub run_parts :
      (ws mid rest : List Word) → book_words ≡ ws ++ (mid ++ rest)
      → layout n f ≡ map packed ws ++ (map packed mid ++ (map packed rest ++ replicate (n - used f) 0))
  unfolding layout
  run_parts ws mid rest e =
      ap (λ (l : List Word). map packed l ++ replicate (n - used f) 0) e ∙ simp (map-append, append_assoc)

  -- the words from `from` to `to`, as a part of the run is lent
  pub run_part :
      (from to : ℕ) (ws mid rest : List Word) → book_words ≡ ws ++ (mid ++ rest)
      → from ≡ length ws → to ≡ length ws + length mid → take (to - from) (drop from (layout n f)) ≡ map packed mid
  run_part from to ws mid rest e a b =
      let after : List ℕ = map packed rest ++ replicate (n - used f) 0 in
      ap (λ (l : List ℕ). take (to - from) (drop from l)) (run_parts ws mid rest e)
      ∙ ap (take (to - from)) (drop_at (map packed ws) (map packed mid ++ after) from (length-map ws packed ∙ sym a))
      ∙ take_at (map packed mid) after (to - from) (length-map mid packed ∙ omega arith)

  -- the word k places after the words ws
  pub run_word :
      (i k : ℕ) (ws rest : List Word) → book_words ≡ ws ++ rest → i ≡ length ws + k
      → get_or (layout n f) i 0 ≡ get_or (map packed rest ++ replicate (n - used f) 0) k 0
  run_word i k ws rest e a =
      (λ j. get_or (run_parts ws [] rest e j) (before j) 0)
      ∙ get_or-append-add (map packed ws) (map packed rest ++ replicate (n - used f) 0) k 0
    where
      before : i ≡ length (map packed ws) + k
      before = omega (arith, length-map ws packed)

  pub used_within : T (is_well_formed n f) → used f ≤ n
  used_within w = omega (arith, used_taken f, (well n f w).room)

-- ---- the fields of a strike word

standing_words :
    (now : ℕ) (ss : List Series) → T (every (is_series now) ss)
    → map standing_of (map packed (map strike_word ss))
    ≡ map (λ s. record { strike = s.strike; on_ground = s.on_ground }) ss
standing_words now [] t = refl
standing_words now (s ∷ ss) t =
    let e =
    strike_fields (packed (strike_word s)) s.strike s.on_ground s.put s.call
    (fits (strike_word s) (strike_legal now s (search ands))) refl in
    let d = standing_words now ss (search ands) in
    λ i. record { strike = e.0 i; on_ground = e.1 i } ∷ d i

-- a strike is marked exactly where its word has a mark
marks_say : (now : ℕ) (s : Series) → T (is_series now s) → is_marked_in (packed (strike_word s)) ≡ is_marked s
marks_say now s t =
    let small = fits (strike_word s) (strike_legal now s t) in
    let e = strike_fields (packed (strike_word s)) s.strike s.on_ground s.put s.call small refl in
    λ i. marks (e.2 i) (e.3 i)

-- ---- the places of an open class

pub expiration_length : (b : Bool) (m : ℕ) → length (expiration_unless (not b) m []) ≡ cond {A = ℕ} b 1 0
expiration_length true m = refl
expiration_length false m = refl

module _ (n : ℕ) (f : Facts) (c m : ℕ) (w : T (is_well_formed n f)) (o : T (is_class_open c f.classes)) where
  -- the words before the strikes of the expiration
  abbrev before_strikes : List Word
  before_strikes =
      (head_words f ++ classes_words (only (is_under number c) f.classes) [])
      ++ (figures_words (class f c).figures []
      ++ (series_words 0 (only (is_under month_of m) (class f c).series) []
      ++ expiration_unless (not (has_expiration c m f)) m []))

  before_length : length before_strikes ≡ strikes_place c m f
  before_length =
      simp length-append (omega (arith, expiration_length (has_expiration c m f) m))

  abbrev after_strikes : List Word
  after_strikes =
      series_words 0 (only (is_over month_of m) (class f c).series) []
      ++ classes_words (only (is_over number c) f.classes) []

  around_strikes : book_words n f ≡ before_strikes ++ (map strike_word (in_month m (class f c).series) ++ after_strikes)
  around_strikes = book_words_lem n f c w o m ∙ simp append_assoc

  pub strikes_within : strikes_end c m f ≤ used f
  strikes_within =
      let ss = in_month m (class f c).series in
      omega (
        arith,
        ap length around_strikes,
        length-append before_strikes (map strike_word ss ++ after_strikes),
        length-append (map strike_word ss) after_strikes,
        length-map ss strike_word,
        before_length,
      )

  -- a strike stands, or would stand, among the words used
  pub strike_within : (h : ℕ) → strike_place c m h f ≤ used f
  strike_within h =
      omega (arith, strikes_within, length_only (λ s. ltb s.strike h) (in_month m (class f c).series))

  -- the strikes of the expiration, in the words from the first to the end
  pub strikes_part :
      take (strikes_end c m f - strikes_place c m f) (drop (strikes_place c m f) (layout n f))
      ≡ map packed (map strike_word (in_month m (class f c).series))
  strikes_part =
      let ss = in_month m (class f c).series in
      run_part n f (strikes_place c m f) (strikes_end c m f) before_strikes
      (map strike_word ss) after_strikes around_strikes
      (sym before_length) (omega (arith, before_length, length-map ss strike_word))

  pub strikes_good : T (every (is_series f.now) (in_month m (class f c).series))
  strikes_good =
      let g = series_good n f c w o in
      every_only (is_series f.now) (is_series f.now) (λ s. eqb s.month m) (λ s k t. t) (class f c).series
      (search ands)

  pub strikes_standing :
      map standing_of (take (strikes_end c m f - strikes_place c m f) (drop (strikes_place c m f) (layout n f)))
      ≡ standing_in (view_of c f) m
  strikes_standing =
      ap (map standing_of) strikes_part ∙ standing_words f.now (in_month m (class f c).series) strikes_good

pub expiration_strikes : (c m : ℕ) (f : Facts) → has_expiration c m f ≡ ltb (strikes_place c m f) (strikes_end c m f)
expiration_strikes c m f =
    some_length (λ s. eqb s.month m) (class f c).series
    ∙ go (strikes_place c m f) (length (in_month m (class f c).series)) (ltb 0 (length (in_month m (class f c).series)))
    refl
  where
    go : (a k : ℕ) (b : Bool) → ltb 0 k ≡ b → b ≡ ltb a (a + k)
    go a k true e = sym (lt-ltb a (a + k) (omega (arith, ltb-true 0 k e)))
    go a k false e = sym (le-ltb a (a + k) (omega (arith, ltb-false 0 k e)))

-- ---- a strike that stands

-- the series s stands at the month m and the strike h of the class c
pub record Stands (n : ℕ) (f : Facts) (c m h : ℕ) (s : Series) : Type 0 where
  pub month : s.month ≡ m
  pub strike : s.strike ≡ h
  pub limits : T (is_series f.now s)
  pub word : get_or (layout n f) (strike_place c m h f) 0 ≡ packed (strike_word s)
  pub interest : has_open_interest (view_of c f) m h ≡ is_marked s
  pub within : strike_place c m h f < strikes_end c m f

module _ (n : ℕ) (f : Facts) (c m h : ℕ) (w : T (is_well_formed n f)) (o : T (is_class_open c f.classes)) where
  abbrev lower_strikes : List Series
  lower_strikes = low (class f c).series m h

  abbrev higher_strikes : List Series
  higher_strikes = high (class f c).series m h

  pub strike_stands : T (is_standing (view_of c f) m h) → (s : Series) × Stands n f c m h s
  strike_stands t = (
    s,
    record {
      month = found.month;
      strike = found.strike;
      limits = found.limits;
      word =
          run_word n f (strike_place c m h f) 0 (before_strikes n f c m w o ++ map strike_word lower_strikes)
          (strike_word s ∷ (map strike_word higher_strikes ++ after_strikes n f c m w o)) around
          (omega (
            arith,
            length-append (before_strikes n f c m w o) (map strike_word lower_strikes),
            before_length n f c m w o,
            length-map lower_strikes strike_word,
          ));
      interest =
          sym (some_both (is_at m h) is_marked (class f c).series)
          ∙ ap (some is_marked)
          (sym (only_both (is_equal month_of m) (is_equal strike_of h) (class f c).series) ∙ found.alone)
          ∙ or-false (is_marked s);
      within = omega (arith, simp length-append at (ap length parts));
    },
  )
    where
      series : T (are_series f.now (class f c).series)
      series = series_good n f c w o

      found : Stander (class f c).series m h f.now series
      found = stander (class f c).series m h f.now series t

      s : Series
      s = found.it

      parts : in_month m (class f c).series ≡ lower_strikes ++ (s ∷ higher_strikes)
      parts =
          strike_parts (class f c).series m h f.now series
          ∙ ap (λ (l : List Series). lower_strikes ++ (l ++ higher_strikes)) found.alone

      around :
          book_words n f
          ≡ (before_strikes n f c m w o ++ map strike_word lower_strikes)
          ++ (strike_word s ∷ (map strike_word higher_strikes ++ after_strikes n f c m w o))
      around =
          around_strikes n f c m w o
          ∙ ap (λ (l : List Series). before_strikes n f c m w o
          ++ (map strike_word l ++ after_strikes n f c m w o)) parts
          ∙ regroup (before_strikes n f c m w o) (after_strikes n f c m w o) lower_strikes higher_strikes
        where
          regroup :
              (ws rest : List Word) (ss ts : List Series)
              → ws ++ (map strike_word (ss ++ (s ∷ ts)) ++ rest)
              ≡ (ws ++ map strike_word ss) ++ (strike_word s ∷ (map strike_word ts ++ rest))
          regroup ws rest ss ts = simp (map-append, append_assoc)

  pub standing_within : T (is_standing (view_of c f) m h) → strike_place c m h f < used f
  standing_within t = omega (arith, (strike_stands t).1.within, strikes_within n f c m w o)

  -- a word that stands says whether the strike has open interest
  pub interest_says :
      T (is_standing (view_of c f) m h)
      → is_marked_in (get_or (layout n f) (strike_place c m h f) 0) ≡ has_open_interest (view_of c f) m h
  interest_says t =
      let x = strike_stands t in
      ap is_marked_in x.1.word ∙ marks_say f.now x.0 x.1.limits ∙ sym x.1.interest
