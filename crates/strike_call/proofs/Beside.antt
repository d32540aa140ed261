-- The words beside those of an expiration's strikes are no strikes, so that the words next to a place among them tell
-- whether it has strikes below it and above it: by the kinds of the words of a book. Assumes nothing.
use Prim.Native.Nat.{ℕ, ◌+◌, ◌-◌, ◌≤◌, ◌<◌}
use mathlib.Core.Path.{◌≡◌, refl, sym, ap, ap₂, ◌∙◌, subst}
use mathlib.Core.Bool.{Bool, true, false, cond, not, ◌&&◌, and-false}
use mathlib.Core.List.{List, [], ◌∷◌, ◌++◌, map, append_assoc}
use native.Mathlib.Omega.{arith}
use lib.Dec.{T, eqb, ltb}
use lib.ListN.{length, get_or, take, drop, length-append, length-drop, length-map}
use lib.Seq.{get_or-take, get_or-drop, length-take-le}
use borrow.Author.Tests.{ltb-true, ltb-false, lt-ltb, le-ltb, eq-eqb, ne_eqb}
use Rattle.word.specs.Kinds.{kind_of, is_of_kind, strike_kind}
use Rattle.word.specs.Codec.{Word, Class, Expiration, is_legal, packed}
use Rattle.word.proofs.Words.{legal_fits, kind_in, kind_packed}
use Rattle.logic.specs.Lists.{every, only}
use Rattle.book.proofs.Layouts.{series_words_append, facts_legal}
use Rattle.book.specs.Facts.{Series, OpenClass, number, is_class_open, in_month}
use Rattle.word.specs.Figures.{figures_words}
use Rattle.book.specs.Layout.{strike_word, expiration_unless, series_words, classes_words, used, head_words, facts_of}
use Rattle.book.specs.Books.{is_series, is_book}
use Rattle.book.specs.Views.{class}
use Rattle.book.specs.Places.{has_expiration, strikes_place, strikes_end}
use Rattle.logic.proofs.Tests.{and_intro, ands, parts, T_true}
use Rattle.logic.proofs.Lists.{every_at, every_map, every_true}
use Rattle.logic.proofs.Parts.{is_under, is_over, every_kept}
use Rattle.logic.proofs.Splits.{every_split}
use Rattle.logic.proofs.Slices.{zeros_first}
use Rattle.book.proofs.ClassWords.{book_words_lem}
use Rattle.book.proofs.SeriesParts.{month_of}
use Rattle.book.proofs.Runs.{book_words, run_word, strikes_within, strikes_part, strikes_good, expiration_strikes, expiration_length}
use Rattle.place.proofs.Heads.{book_good, book_is, book_room}
use Rattle.place.proofs.Laid.{kinds_packed}
use Rattle.place.proofs.Found.{later_begin}

-- whether the words used have a strike there
abbrev pub is_strike_at : List ℕ → ℕ → Bool
is_strike_at w i = ltb i (used (facts_of w)) && is_of_kind strike_kind (get_or w i 0)

-- the words from `start` to `stop`, with the one at `at` where it is a strike and perhaps with the one before it, are
-- words used
pub beside_within :
    (w : List ℕ) (at start stop : ℕ) (below : Bool) → start ≡ cond {A = ℕ} below (at - 1) at
    → stop ≡ cond {A = ℕ} (is_strike_at w at) (at + 1) at → at ≤ used (facts_of w)
    → (start ≤ stop) × (stop ≤ used (facts_of w))
beside_within w at start stop below first last within =
    let l = starts below first in
    let k = stops (is_strike_at w at) refl last in
    (omega arith, k.1)
  where
    starts : (b : Bool) → start ≡ cond {A = ℕ} b (at - 1) at → start ≤ at
    starts true e = omega arith
    starts false e = omega arith

    stops :
        (b : Bool) → is_strike_at w at ≡ b → stop ≡ cond {A = ℕ} b (at + 1) at
        → (at ≤ stop) × (stop ≤ used (facts_of w))
    stops true e d =
        let l = ltb-true at (used (facts_of w)) (search parts) in
        (omega arith, omega arith)
    stops false e d = (omega arith, omega arith)

-- ---- the kinds of the words of a book

module _ (w : List ℕ) (book : T (is_book w)) where
  words_legal : T (every is_legal (book_words (length w) (facts_of w)))
  words_legal = facts_legal (length w) (facts_of w) (book_good w book)

  -- the kind of a word by the words before it
  kind_at :
      (i : ℕ) (before rest : List Word) (x : Word) → book_words (length w) (facts_of w) ≡ before ++ (x ∷ rest)
      → i ≡ length before → kind_of (get_or w i 0) ≡ kind_in x
  kind_at i before rest x e d =
      let t = (every_split is_legal before (x ∷ rest)
      (subst (λ (l : List Word). T (every is_legal l)) e words_legal)).1 in
      let fits = legal_fits x (T_true (is_legal x) (search ands)) in
      let word : get_or w i 0 ≡ packed x =
      subst (λ (l : List ℕ). get_or l i 0 ≡ packed x) (book_is w book)
      (run_word (length w) (facts_of w) i 0 before (x ∷ rest) e (omega arith)) in
      kind_packed x (get_or w i 0) fits (sym word)

  -- no strike stands at i, between some words and others
  abbrev NoStrike : ℕ → List Word → List Word → Type 0
  NoStrike i before rest =
      book_words (length w) (facts_of w) ≡ before ++ rest → i ≡ length before
      → is_of_kind strike_kind (get_or w i 0) ≡ false

  -- the word after those of an expiration's strikes is none
  kind_after :
      (m i : ℕ) (before : List Word) (ss : List Series) (xs : List OpenClass) → T (every (is_over month_of m) ss)
      → NoStrike i before (series_words 0 ss (classes_words xs []))
  kind_after m i before = later_begin m (NoStrike i before) none of_class of_month
    where
      none : NoStrike i before []
      none e d =
          ap (is_of_kind strike_kind)
          (subst (λ (l : List ℕ). get_or l i 0 ≡ 0) (book_is w book)
          (run_word (length w) (facts_of w) i 0 before [] e (omega arith) ∙ zeros_first (length w - used (facts_of w))))

      of_class : (number : ℕ) (ds : List ℕ) (rest : List Word) → NoStrike i before (Class number ds ∷ rest)
      of_class number ds rest e d =
          ap (λ (k : ℕ). eqb k strike_kind.number) (kind_at i before rest (Class number ds) e d)

      of_month : (n : ℕ) (rest : List Word) → m < n → NoStrike i before (Expiration n ∷ rest)
      of_month n rest l e d =
          ap (λ (k : ℕ). eqb k strike_kind.number) (kind_at i before rest (Expiration n) e d)

-- ---- the words beside the strikes of an expiration

regrouped : {A : Type 0} (xs ys zs rest : List A) → xs ++ (ys ++ (zs ++ rest)) ≡ (xs ++ (ys ++ zs)) ++ rest
regrouped xs ys zs rest = simp append_assoc

module _ (w : List ℕ) (book : T (is_book w)) (c m : ℕ) (o : T (is_class_open c (facts_of w).classes)) where
  abbrev from : ℕ
  from = strikes_place c m (facts_of w)

  abbrev to : ℕ
  to = strikes_end c m (facts_of w)

  abbrev here : List Series
  here = in_month m (class (facts_of w) c).series

  -- the words of the book before the expiration, and those after its strikes
  abbrev before : List Word
  before =
      (head_words (facts_of w) ++ classes_words (only (is_under number c) (facts_of w).classes) [])
      ++ (figures_words (class (facts_of w) c).figures []
      ++ series_words 0 (only (is_under month_of m) (class (facts_of w) c).series) [])

  abbrev after : List Word
  after =
      series_words 0 (only (is_over month_of m) (class (facts_of w) c).series) []
      ++ classes_words (only (is_over number c) (facts_of w).classes) []

  around :
      book_words (length w) (facts_of w)
      ≡ before ++ (expiration_unless (not (has_expiration c m (facts_of w))) m [] ++ (map strike_word here ++ after))
  around = book_words_lem (length w) (facts_of w) c (book_good w book) o m ∙ simp append_assoc

  before_length : length before + cond {A = ℕ} (has_expiration c m (facts_of w)) 1 0 ≡ from
  before_length = simp length-append (omega arith)

  strikes_kind : T (every (is_of_kind strike_kind) (take (to - from) (drop from w)))
  strikes_kind =
      let good = strikes_good (length w) (facts_of w) c m (book_good w book) o in
      subst (λ (l : List ℕ). T (every (is_of_kind strike_kind) (take (to - from) (drop from l)))) (book_is w book)
      (rw (strikes_part (length w) (facts_of w) c m (book_good w book) o)
      (kinds_packed (λ k. eqb k strike_kind.number) (map strike_word here)
      (every_map (is_series (facts_of w).now) is_legal strike_word (λ s t. search (ands, and_intro)) here good)
      (every_map (λ s. true) (λ x. eqb (kind_in x) strike_kind.number) strike_word (λ s t. tt) here (every_true here))))

  kind_inside : (i : ℕ) → from ≤ i → i < to → is_of_kind strike_kind (get_or w i 0) ≡ true
  kind_inside i l k =
      let j : ℕ = i - from in
      let a : from + j ≡ i = omega arith in
      let b : j < to - from = omega arith in
      let size : length (take (to - from) (drop from w)) ≡ to - from =
      length-take-le (to - from) (drop from w)
      (simp length-drop
      (omega (arith, strikes_within (length w) (facts_of w) c m (book_good w book) o, book_room w book))) in
      let e : get_or (take (to - from) (drop from w)) j 0 ≡ get_or w i 0 =
      get_or-take (to - from) (drop from w) j 0 b ∙ get_or-drop from w j 0 ∙ ap (λ (n : ℕ). get_or w n 0) a in
      sym (ap (is_of_kind strike_kind) e)
      ∙ T_true _ (every_at (is_of_kind strike_kind) 0 (take (to - from) (drop from w)) j (omega arith) strikes_kind)

  kind_end : is_of_kind strike_kind (get_or w to 0) ≡ false
  kind_end =
      let word : List Word = expiration_unless (not (has_expiration c m (facts_of w))) m [] in
      let later = only (is_over month_of m) (class (facts_of w) c).series in
      let above = only (is_over number c) (facts_of w).classes in
      let front = before ++ (word ++ map strike_word here) in
      kind_after w book m to front later above (every_kept (is_over month_of m) (class (facts_of w) c).series)
      (around
      ∙ regrouped before word (map strike_word here) after
      ∙ ap (λ (l : List Word). front ++ l) (sym (series_words_append 0 later [] (classes_words above []))))
      (simp length-append
      (omega (
        arith,
        before_length,
        expiration_length (has_expiration c m (facts_of w)) m,
        length-map here strike_word,
      )))

  -- a place among the strikes of the expiration, or after them, has a strike exactly where they have not ended
  pub strike_there : (i : ℕ) → from ≤ i → i ≤ to → is_strike_at w i ≡ ltb i to
  strike_there i l k = go (ltb i to) refl
    where
      go : (b : Bool) → ltb i to ≡ b → is_strike_at w i ≡ b
      go true e =
          let inside = ltb-true i to e in
          let room : i < used (facts_of w) =
          omega (arith, strikes_within (length w) (facts_of w) c m (book_good w book) o) in
          ap₂ ◌&&◌ (lt-ltb i (used (facts_of w)) room) (kind_inside i l inside)
      go false e =
          let end : to ≡ i = omega (arith, ltb-false i to e) in
          ap (λ (b : Bool). ltb i (used (facts_of w)) && b)
          (ap (λ (n : ℕ). is_of_kind strike_kind (get_or w n 0)) (sym end) ∙ kind_end)
          ∙ and-false (ltb i (used (facts_of w)))

  -- where the expiration has strikes, the word before such a place is one exactly where the place is not the first
  strike_before : has_expiration c m (facts_of w) ≡ true → (i : ℕ) → from ≤ i → i ≤ to
      → is_strike_at w (i - 1) ≡ ltb from i
  strike_before has i l k = go (ltb from i) refl
    where
      first : is_of_kind strike_kind (get_or w (from - 1) 0) ≡ false
      first =
          ap (λ (n : ℕ). eqb n strike_kind.number)
          (kind_at w book (from - 1) before (map strike_word here ++ after) (Expiration m)
          (around ∙ ap (λ (b : Bool). before
          ++ (expiration_unless (not b) m [] ++ (map strike_word here ++ after))) has)
          (omega (arith, before_length, ap (λ (b : Bool). cond {A = ℕ} b 1 0) has)))

      go : (b : Bool) → ltb from i ≡ b → is_strike_at w (i - 1) ≡ b
      go true e =
          let later = ltb-true from i e in
          let inside : i - 1 < to = omega arith in
          strike_there (i - 1) (omega arith) (omega arith) ∙ lt-ltb (i - 1) to inside
      go false e =
          let begin : from ≡ i = omega (arith, ltb-false from i e) in
          ap (λ (b : Bool). ltb (i - 1) (used (facts_of w)) && b)
          (ap (λ (n : ℕ). is_of_kind strike_kind (get_or w (n - 1) 0)) (sym begin) ∙ first)
          ∙ and-false (ltb (i - 1) (used (facts_of w)))

  -- a place has a strike of its expiration before it exactly where it is not the first
  pub strike_below : (i : ℕ) → from ≤ i → i ≤ to
      → (has_expiration c m (facts_of w) && is_strike_at w (i - 1)) ≡ ltb from i
  strike_below i l k = go (has_expiration c m (facts_of w)) refl
    where
      go : (b : Bool) → has_expiration c m (facts_of w) ≡ b → (b && is_strike_at w (i - 1)) ≡ ltb from i
      go true e = strike_before e i l k
      go false e =
          let none : to ≤ from = ltb-false from to (sym (expiration_strikes c m (facts_of w)) ∙ e) in
          sym (le-ltb from i (omega arith))

  -- a strike that stands is the only one of its expiration exactly where neither word next to it is one
  pub strike_alone :
      (i : ℕ) → from ≤ i → i < to
      → (not (is_strike_at w (i - 1)) && not (is_strike_at w (i + 1))) ≡ eqb to (from + 1)
  strike_alone i l k =
      let has : has_expiration c m (facts_of w) ≡ true =
      expiration_strikes c m (facts_of w) ∙ lt-ltb from to (omega arith) in
      ap₂ (λ (x y : Bool). not x && not y) (strike_before has i l (omega arith))
      (strike_there (i + 1) (omega arith) (omega arith))
      ∙ go (ltb from i) refl (ltb (i + 1) to) refl
    where
      go : (x : Bool) → ltb from i ≡ x → (y : Bool) → ltb (i + 1) to ≡ y → (not x && not y) ≡ eqb to (from + 1)
      go true e y d = sym (ne_eqb to (from + 1) (λ z. omega (arith, ltb-true from i e)))
      go false e true d = sym (ne_eqb to (from + 1) (λ z. omega (arith, ltb-true (i + 1) to d)))
      go false e false d = sym (eq-eqb to (from + 1) (omega (arith, ltb-false from i e, ltb-false (i + 1) to d)))
