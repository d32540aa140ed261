-- What the searches find in a book, as places of its facts: the words that they are lent are those of the classes, of a
-- class's series and of an expiration's strikes. Assumes nothing.
use Prim.Native.Nat.{ℕ, suc, ◌+◌, ◌-◌, ◌^◌, ◌<◌, ◌≤◌}
use mathlib.Core.Path.{◌≡◌, refl, sym, ap, ◌∙◌, subst}
use mathlib.Core.Bool.{Bool, true, false, cond, not, ◌&&◌}
use mathlib.Core.List.{List, [], ◌∷◌, ◌++◌, map, append-nil, append_assoc}
use native.Mathlib.Omega.{arith}
use lib.ListN.{length, take, drop, get_or, replicate, length-append, length-drop, length-map}
use lib.Seq.{drop_at, drop-drop, length-take-le, take-add}
use lib.Dec.{T, eqb, leb, ltb, eqb-zero-suc, leb-zero, ltb→lt}
use borrow.Author.Tests.{eq-eqb, ne_eqb, le-leb, lt-ltb, le-ltb}
use Rattle.word.proofs.FigureWords.{figures_read}
use Rattle.word.specs.Limits.{last_month, longest_run}
use Rattle.word.specs.Head.{first_place}
use Rattle.word.specs.Kinds.{key_of, class_kind, expiration_kind, strike_kind, kind_field}
use Rattle.word.specs.Codec.{Word, Class, Expiration, is_legal, packed}
use Rattle.word.proofs.Words.{legal_fits, kind_in, kind_packed}
use Rattle.logic.specs.Lists.{every, only, first_at}
use Rattle.book.specs.Facts.{Series, OpenClass, Facts, number, is_class_open, in_month}
use Rattle.word.specs.Figures.{figures_words, figures_at, figures_length}
use Rattle.book.specs.Layout.{strike_word, expiration_unless, series_words, classes_words, used, head_words, facts_of}
use Rattle.book.specs.Books.{is_book}
use Rattle.book.specs.Views.{view_of, class, is_standing}
use Rattle.book.specs.Places.{ClassBegins, class_place, has_expiration, expiration_place, strike_place}
use Rattle.logic.proofs.Tests.{ands, T_true, true_T, ltb_not}
use Rattle.word.proofs.RawWords.{fits}
use Rattle.logic.proofs.Lists.{every_imply, every_map, every_true}
use Rattle.book.proofs.Layouts.{series_words_append, words_legal}
use Rattle.logic.proofs.Parts.{only_absent, every_kept, some_both, is_under, is_equal, is_over, distinct_parts}
use Rattle.book.proofs.SeriesParts.{month_of, strike_of, series_words_lem, low, placed, high, strike_parts}
use Rattle.logic.proofs.Splits.{every_split}
use Rattle.book.proofs.ClassWords.{class_good, series_good, class_words, numbers_rise}
use Rattle.book.proofs.Runs.{book_words, run_parts, run_part, run_word}
use Rattle.place.specs.Search.{is_no_lower, is_up_to, is_from, is_holding, Rises}
use Rattle.place.proofs.Heads.{book_good, book_form, book_is, book_room, book_long}
use Rattle.place.proofs.KeyedWords.{key_in, first_from, is_keyed, key_said, from_packed, is_ending, up_to_packed}
use Rattle.place.proofs.Laid.{begins, first_after, kinds_packed, stops_anywhere, ends_there, from_there, two_parts, sought, found, every_series, strikes_laid, class_kinds, no_class, classes_laid}
use Rattle.place.proofs.Rising.{ordered_rises, ordered_packed, classes_ordered}

-- ---- the words after those of a month

-- they begin with a class or a later expiration, or there are none
module _
    (m : ℕ) (P : List Word → Type 0) (none : P [])
    (of_class : (number : ℕ) (ds : List ℕ) (ws : List Word) → P (Class number ds ∷ ws))
    (of_month : (n : ℕ) (ws : List Word) → m < n → P (Expiration n ∷ ws)) where
  pub later_begin :
      (ss : List Series) (xs : List OpenClass) → T (every (is_over month_of m) ss)
      → P (series_words 0 ss (classes_words xs []))
  later_begin [] [] t = none
  later_begin [] (x ∷ xs) t = of_class (number x) x.figures.designations _
  later_begin (s ∷ ss) xs t =
      let after : m < s.month = ltb→lt m s.month (search ands) in
      rw (eqb-zero-suc s.month) (of_month s.month _ after)

strike_said :
    (h : ℕ) (w : Word) → is_legal w ≡ true → kind_in w ≡ strike_kind.number
    → is_holding strike_kind h (packed w) ≡ eqb (key_in w) h
strike_said h w legal e =
    rw (kind_packed w (packed w) (legal_fits w legal) refl, e, key_said strike_kind.number w legal e)

holds_no_strike :
    (h : ℕ) (w : Word) → is_legal w ≡ true → eqb (kind_in w) strike_kind.number ≡ false
    → is_holding strike_kind h (packed w) ≡ false
holds_no_strike h w legal e = rw (kind_packed w (packed w) (legal_fits w legal) refl, e)

-- ---- classes

module _ (ws : List ℕ) (b : T (is_book ws)) where
  abbrev facts : Facts
  facts = facts_of ws

  -- the words from an index to the last one used
  rest_part :
      (from end : ℕ) (before rest : List Word) → book_words (length ws) facts ≡ before ++ rest → from ≡ length before
      → end ≡ used facts
      → take (end - from) (drop from ws) ≡ map packed rest
  rest_part from end before rest e l d =
      subst (λ (l : List ℕ). take (end - from) (drop from l) ≡ map packed rest) (book_is ws b)
      (run_part (length ws) facts from end before rest []
      (e ∙ ap (λ (r : List Word). before ++ r) (sym (append-nil rest))) l
      (omega (arith, d, ap length e, length-append before rest)))

  -- a test of the word at an index, where it is one of those used
  word_there :
      (test : ℕ → Bool) (at : ℕ) (before rest : List Word) → book_words (length ws) facts ≡ before ++ rest
      → at ≡ length before
      → (ltb at (used facts) && test (get_or ws at 0)) ≡ begins test rest
  word_there test at before [] e l =
      let long : used facts ≡ length before + 0 = omega (arith, ap length e, length-append before []) in
      rw (le-ltb at (used facts) (omega arith))
  word_there test at before (w ∷ rest) e l =
      let long : used facts ≡ length before + suc (length rest) =
      omega (arith, ap length e, length-append before (w ∷ rest)) in
      let word : get_or ws at 0 ≡ packed w =
      subst (λ (l : List ℕ). get_or l at 0 ≡ packed w) (book_is ws b)
      (run_word (length ws) facts at 0 before (w ∷ rest) e (omega arith)) in
      rw (lt-ltb at (used facts) (omega arith), word)

  pub legal : T (every is_legal (classes_words facts.classes []))
  legal =
      true_T (every is_legal (classes_words facts.classes []))
      (words_legal facts.now facts.classes (book_form ws b).limits)

  pub body :
      (end : ℕ) → end ≡ used facts
      → take (end - first_place) (drop first_place ws) ≡ map packed (classes_words facts.classes [])
  body end e =
      rest_part first_place end (head_words facts) (classes_words facts.classes []) refl refl e

  -- the words used from an index on
  abbrev pub used_part : ℕ → List ℕ
  used_part from = take (used facts - from) (drop from ws)

  pub body_short : length (used_part first_place) ≤ longest_run
  body_short =
      omega (
        arith,
        length-take-le (used facts - first_place) (drop first_place ws)
            (simp length-drop (omega (arith, book_room ws b))),
        book_room ws b,
        book_long ws b,
      )

  pub body_kinds : T (every (is_no_lower class_kind) (used_part first_place))
  body_kinds =
      subst (λ (l : List ℕ). T (every (is_no_lower class_kind) l)) (sym (body (used facts) refl))
      (kinds_packed (leb class_kind.number) (classes_words facts.classes []) legal (class_kinds facts.classes))

  -- the next class word
  pub next_class_word :
      (from : ℕ) → first_place ≤ from → from ≤ used facts
      → first_at (is_up_to class_kind 0) (used_part from) ≡ first_at (is_from class_kind 0) (used_part from)
  next_class_word from l h =
      first_from class_kind 0 (omega arith) (used_part from)
      (every_split (is_no_lower class_kind) (take (from - first_place) (drop first_place ws)) (used_part from)
      (rw later at body_kinds)).1
    where
      later : used_part first_place ≡ take (from - first_place) (drop first_place ws) ++ used_part from
      later =
          let n : used facts - first_place ≡ (from - first_place) + (used facts - from) = omega arith in
          let k : first_place + (from - first_place) ≡ from = omega arith in
          ap (λ (j : ℕ). take j (drop first_place ws)) n
          ∙ take-add (from - first_place) (used facts - from) (drop first_place ws)
          ∙ ap (λ (l : List ℕ). take (from - first_place) (drop first_place ws) ++ take (used facts - from) l)
          (drop-drop (from - first_place) first_place ws ∙ ap (λ (j : ℕ). drop j ws) k)

  pub class_rises : (c : ℕ) → Rises class_kind c (used_part first_place)
  class_rises c =
      subst (Rises class_kind c) (sym (body (used facts) refl))
      (ordered_rises class_kind c (map packed (classes_words facts.classes []))
      (ordered_packed class_kind.number (classes_words facts.classes []) legal
      (classes_ordered facts.classes (numbers_rise (length ws) facts (book_good ws b)))))

  numbers :
      (c : ℕ)
      → facts.classes
      ≡ only (is_under number c) facts.classes
      ++ (only (is_equal number c) facts.classes ++ only (is_over number c) facts.classes)
  numbers c = distinct_parts number c facts.classes (numbers_rise (length ws) facts (book_good ws b))

  pub class_sought :
      (c i : ℕ) → i ≡ first_at (is_from class_kind c) (used_part first_place) → first_place + i ≡ class_place c facts
  class_sought c i e =
      let q =
      sought number class_kind.number (λ xs. classes_words xs []) classes_laid c facts.classes (numbers c) legal in
      omega (arith, ap (first_at (is_from class_kind c)) (body (used facts) refl))

  -- the book's words, parted where a class stands or would stand
  class_parted :
      (c : ℕ)
      → book_words (length ws) facts
      ≡ (head_words facts ++ classes_words (only (is_under number c) facts.classes) [])
      ++ classes_words (only (is_equal number c) facts.classes ++ only (is_over number c) facts.classes) []
  class_parted c =
      ap (λ (l : List Word). head_words facts ++ l)
      (two_parts number class_kind.number (λ xs. classes_words xs []) classes_laid c facts.classes (numbers c)
      legal)

  pub class_within : (c : ℕ) → class_place c facts ≤ used facts
  class_within c = omega (arith, simp length-append at (ap length (class_parted c)))

  pub class_found :
      (c at : ℕ) → at ≡ class_place c facts
      → (ltb at (used facts) && eqb (key_of class_kind (get_or ws at 0)) c) ≡ is_class_open c facts.classes
  class_found c at e =
      let test : ℕ → Bool = λ w. eqb (key_of class_kind w) c in
      let from =
      classes_words (only (is_equal number c) facts.classes ++ only (is_over number c) facts.classes) [] in
      word_there test at (head_words facts ++ classes_words (only (is_under number c) facts.classes) [])
      from (class_parted c) (omega (arith, e))
      ∙ ap (begins test) (sym (append-nil from))
      ∙ found number class_kind.number (λ xs. classes_words xs []) classes_laid c facts.classes (numbers c) legal
      test
      (λ w legal k. ap (λ (n : ℕ). eqb n c) (key_said class_kind.number w legal k)) [] refl

  -- ---- an open class

  module _ (c : ℕ) (o : T (is_class_open c facts.classes)) where
    abbrev lower : List Word
    lower = head_words facts ++ classes_words (only (is_under number c) facts.classes) []

    abbrev figures : List Word
    figures = figures_words (class facts c).figures []

    abbrev series : List Word
    series = series_words 0 (class facts c).series []

    abbrev upper : List Word
    upper = classes_words (only (is_over number c) facts.classes) []

    words_are : book_words (length ws) facts ≡ lower ++ (figures ++ (series ++ upper))
    words_are = class_words (length ws) facts c (book_good ws b) o

    pub class_room : class_place c facts + figures_length + length series ≤ used facts
    class_room = omega (arith, simp length-append at (ap length words_are))

    pub figures_found : (at : ℕ) → at ≡ class_place c facts → figures_at at ws ≡ (class facts c).figures
    figures_found at e =
        let g = class_good (length ws) facts c (book_good ws b) o in
        let rest = map packed (series ++ upper) ++ replicate (length ws - used facts) 0 in
        let there =
        ap (drop at) (sym (book_is ws b) ∙ run_parts (length ws) facts lower figures (series ++ upper) words_are)
        ∙ drop_at (map packed lower) (map packed figures ++ rest) at (omega (arith, length-map lower packed, e)) in
        figures_read at ws (omega (arith, e, class_room, book_room ws b)) (class facts c).figures rest (search ands)
        (sym there)

    tail_legal : T (every is_legal (series ++ upper))
    tail_legal =
        let e : classes_words facts.classes [] ≡ drop first_place lower ++ (figures ++ (series ++ upper)) =
        ap (drop first_place) words_are in
        let t = (every_split is_legal (drop first_place lower) (figures ++ (series ++ upper)) (rw e at legal)).1 in
        search ands

    around : book_words (length ws) facts ≡ (lower ++ figures) ++ (series ++ upper)
    around = words_are ∙ simp append_assoc

    before_length : length (lower ++ figures) ≡ class_place c facts + figures_length
    before_length = simp length-append (omega arith)

    -- the words from its series on
    tail_part :
        (from end : ℕ) → from ≡ class_place c facts + figures_length → end ≡ used facts
        → take (end - from) (drop from ws) ≡ map packed (series ++ upper)
    tail_part from end e d =
        rest_part from end (lower ++ figures) (series ++ upper) around (omega (arith, before_length)) d

    -- its series end at the next class word
    pub class_ended :
        (from end : ℕ) → from ≡ class_place c facts + figures_length
        → end ≡ from + first_at (is_from class_kind 0) (take (used facts - from) (drop from ws))
        → end ≡ from + length series
    class_ended from end e d =
        let q =
        first_after (is_from class_kind 0) (is_keyed class_kind.number 0) (from_packed class_kind.number 0) series
        upper tail_legal
        (no_class (λ w. not (is_keyed class_kind.number 0 w)) (λ w e. rw e tt) 0 (class facts c).series [] tt)
        (stops_anywhere number class_kind.number (λ xs. classes_words xs []) classes_laid
        (only (is_over number c) facts.classes)) in
        omega (arith, ap (first_at (is_from class_kind 0)) (tail_part from (used facts) e refl))

    -- ---- an expiration of it

    module _ (m : ℕ) (month : m ≤ last_month) where
      abbrev listed : List Series
      listed = (class facts c).series

      abbrev here : List Series
      here = in_month m listed

      abbrev has : Bool
      has = has_expiration c m facts

      abbrev early : List Word
      early = series_words 0 (only (is_under month_of m) listed) []

      abbrev strikes : List Word
      strikes = map strike_word here

      abbrev late : List Word
      late = series_words 0 (only (is_over month_of m) listed) upper

      abbrev from_month : Bool → List Word
      from_month stands = expiration_unless (not stands) m (strikes ++ late)

      tail_words : series ++ upper ≡ early ++ from_month has
      tail_words =
          sym (series_words_append 0 listed [] upper)
          ∙ series_words_lem facts.now m listed (series_good (length ws) facts c (book_good ws b) o) upper

      from_legal : T (every is_legal (from_month has))
      from_legal = (every_split is_legal early (from_month has) (rw tail_words at tail_legal)).1

      later :
          (P : List Word → Type 0) → P [] → ((number : ℕ) (ds : List ℕ) (ws : List Word) → P (Class number ds ∷ ws))
          → ((n : ℕ) (ws : List Word) → m < n → P (Expiration n ∷ ws)) → P late
      later P none of_class of_month =
          later_begin m P none of_class of_month (only (is_over month_of m) listed)
          (only (is_over number c) facts.classes)
          (every_kept (is_over month_of m) listed)

      pub none_in : has ≡ false → here ≡ []
      none_in e = only_absent (is_equal month_of m) listed (rw e tt)

      -- the search for its word passes the earlier expirations
      pub expiration_sought :
          (from : ℕ) → from ≡ class_place c facts + figures_length
          → from + first_at (is_up_to expiration_kind m) (take (used facts - from) (drop from ws))
          ≡ expiration_place c m facts
      expiration_sought from e =
          omega (
            arith,
            ap (first_at (is_up_to expiration_kind m))
                (tail_part from (used facts) e refl ∙ ap (map packed) tail_words),
            passed,
          )
        where
          stop : (stands : Bool) → has ≡ stands → first_at (is_ending expiration_kind.number m) (from_month stands) ≡ 0
          stop true q = rw (le-leb m m (omega arith))
          stop false q =
              rw (none_in q)
              (later (λ l. first_at (is_ending expiration_kind.number m) l ≡ 0) refl (λ n d l. refl)
              (λ n l k. rw (le-leb m n (omega arith))))

          passed : first_at (is_up_to expiration_kind m) (map packed (early ++ from_month has)) ≡ length early
          passed =
              first_after (is_up_to expiration_kind m) (is_ending expiration_kind.number m)
              (up_to_packed expiration_kind.number m (omega arith) (omega arith)) early (from_month has)
              (rw tail_words at tail_legal)
              (every_series (λ w. not (is_ending expiration_kind.number m w)) 0 (only (is_under month_of m) listed) []
              (every_imply (is_under month_of m)
              (λ s. not (is_ending expiration_kind.number m (strike_word s))
              && not (is_ending expiration_kind.number m (Expiration s.month)))
              (λ s u. ltb_not s.month m u) (only (is_under month_of m) listed)
              (every_kept (is_under month_of m) listed)) tt)
              (stop has refl)

      -- .. and its word stands there where it has strikes
      pub expiration_found :
          (at : ℕ) → at ≡ expiration_place c m facts
          → (ltb at (used facts) && eqb (get_or ws at 0) (packed (Expiration m))) ≡ has
      expiration_found at e =
          word_there (λ w. eqb w (packed (Expiration m))) at ((lower ++ figures) ++ early) (from_month has)
          (around ∙ ap (λ (l : List Word). (lower ++ figures) ++ l) tail_words
          ∙ sym (append_assoc (lower ++ figures) early (from_month has)))
          (e ∙ sym (simp length-append (omega (arith, before_length))))
          ∙ go has refl from_legal
        where
          go :
              (stands : Bool) → has ≡ stands → T (every is_legal (from_month stands))
              → begins (λ w. eqb w (packed (Expiration m))) (from_month stands) ≡ stands
          go true q legal = eq-eqb (packed (Expiration m)) (packed (Expiration m)) refl
          go false q legal =
              rw (none_in q)
              (later (λ l. T (every is_legal l) → begins (λ w. eqb w (packed (Expiration m))) l ≡ false) (λ t. refl)
              (λ n ds l t.
              ne_eqb (packed (Class n ds)) (packed (Expiration m))
              (λ x.
              omega (arith, kind_packed (Class n ds) (packed (Expiration m)) (fits (Class n ds) (search ands)) x)))
              (λ n l k t. ne_eqb (packed (Expiration n)) (packed (Expiration m)) (λ x. omega arith))
              (rw (none_in q) at legal))

      -- ---- its strikes, where it has any

      module _ (stands : has ≡ true) where
        strikes_around :
            book_words (length ws) facts ≡ ((lower ++ figures) ++ (early ++ (Expiration m ∷ []))) ++ (strikes ++ late)
        strikes_around =
            let parts : series ++ upper ≡ early ++ (Expiration m ∷ (strikes ++ late)) =
            tail_words ∙ ap (λ (s : Bool). early ++ from_month s) stands in
            around
            ∙ ap (λ (l : List Word). (lower ++ figures) ++ l)
            (parts ∙ sym (append_assoc early (Expiration m ∷ []) (strikes ++ late)))
            ∙ sym (append_assoc (lower ++ figures) (early ++ (Expiration m ∷ [])) (strikes ++ late))

        strikes_legal : T (every is_legal (strikes ++ late))
        strikes_legal = let t : T (every is_legal (from_month true)) = rw stands at from_legal in search ands

        strikes_rest :
            (from : ℕ) → from ≡ expiration_place c m facts + 1
            → take (used facts - from) (drop from ws) ≡ map packed (strikes ++ late)
        strikes_rest from e =
            rest_part from (used facts) ((lower ++ figures) ++ (early ++ (Expiration m ∷ []))) (strikes ++ late)
            strikes_around
            (e ∙ sym (simp length-append (omega (arith, before_length)))) refl

        -- they end at the next word that is no strike
        pub strikes_ended :
            (from : ℕ) → from ≡ expiration_place c m facts + 1
            → first_at (is_up_to expiration_kind 0) (take (used facts - from) (drop from ws)) ≡ length here
        strikes_ended from e =
            ap (first_at (is_up_to expiration_kind 0)) (strikes_rest from e)
            ∙ first_after (is_up_to expiration_kind 0) (is_ending expiration_kind.number 0)
            (up_to_packed expiration_kind.number 0 (omega arith) (omega arith)) strikes late strikes_legal
            (every_map (λ s. true) (λ w. not (is_ending expiration_kind.number 0 w)) strike_word (λ s t. tt) here
            (every_true here))
            (later (λ l. first_at (is_ending expiration_kind.number 0) l ≡ 0) refl (λ n d l. refl)
            (λ n l k. rw (leb-zero n)))
            ∙ length-map here strike_word

        -- ---- a strike of them

        module _ (h : ℕ) (small : h < 2 ^ kind_field.low) where
          parts : here ≡ low listed m h ++ (placed listed m h ++ high listed m h)
          parts = strike_parts listed m h facts.now (series_good (length ws) facts c (book_good ws b) o)

          here_legal : T (every is_legal strikes)
          here_legal = (every_split is_legal strikes late strikes_legal).0

          abbrev lows : List Word
          lows = map strike_word (low listed m h)

          abbrev highs : List Word
          highs = map strike_word (placed listed m h ++ high listed m h)

          two : strikes ++ late ≡ lows ++ (highs ++ late)
          two =
              ap (λ (l : List Word). l ++ late)
              (two_parts strike_of strike_kind.number (map strike_word) strikes_laid h here parts here_legal)
              ∙ append_assoc lows highs late

          -- the search for it passes the lower strikes of the expiration
          pub strike_sought :
              (from : ℕ) → from ≡ expiration_place c m facts + 1
              → first_at (is_up_to strike_kind h) (take (used facts - from) (drop from ws)) ≡ length (low listed m h)
          strike_sought from e =
              ap (first_at (is_up_to strike_kind h)) (strikes_rest from e ∙ ap (map packed) two)
              ∙ first_after (is_up_to strike_kind h) (is_ending strike_kind.number h)
              (up_to_packed strike_kind.number h small (omega arith)) lows (highs ++ late)
              (rw two at strikes_legal)
              (every_map (is_under strike_of h) (λ w. not (is_ending strike_kind.number h w)) strike_word
              (λ s u. ltb_not s.strike h u)
              (low listed m h) (every_kept (is_under strike_of h) here))
              (ends_there strike_of strike_kind.number (map strike_word) strikes_laid h
              (placed listed m h ++ high listed m h) late
              (from_there strike_of strike_kind.number (map strike_word) strikes_laid h here parts here_legal)
              (later (λ l. first_at (is_ending strike_kind.number h) l ≡ 0) refl (λ n d l. refl) (λ n l k. refl)))
              ∙ length-map (low listed m h) strike_word

          -- .. and its word stands there where it stands
          pub strike_found :
              (at : ℕ) → at ≡ strike_place c m h facts
              → (ltb at (used facts) && is_holding strike_kind h (get_or ws at 0)) ≡ is_standing (view_of c facts) m h
          strike_found at e =
              let before = (lower ++ figures) ++ (early ++ (Expiration m ∷ [])) in
              let one : cond {A = ℕ} has 1 0 ≡ 1 = rw stands in
              word_there (is_holding strike_kind h) at (before ++ lows) (highs ++ late)
              (strikes_around ∙ ap (λ (l : List Word). before ++ l) two
              ∙ sym (append_assoc before lows (highs ++ late)))
              (e ∙ sym (simp (length-append, length-map) (omega (arith, before_length))))
              ∙ found strike_of strike_kind.number (map strike_word) strikes_laid h here parts here_legal
              (is_holding strike_kind h) (strike_said h) late
              (later (λ l. T (every is_legal l) → begins (is_holding strike_kind h) l ≡ false) (λ t. refl)
              (λ n ds l t. holds_no_strike h (Class n ds) (T_true (is_legal (Class n ds)) (search ands)) refl)
              (λ n l k t. holds_no_strike h (Expiration n) (T_true (is_legal (Expiration n)) (search ands)) refl)
              (every_split is_legal strikes late strikes_legal).1)
              ∙ some_both (is_equal month_of m) (is_equal strike_of h) listed

-- the words of a class's figures are among those used
pub begins_room :
    (ws : List ℕ) → T (is_book ws) → (at : ℕ) → ClassBegins (facts_of ws) at → at + figures_length ≤ used (facts_of ws)
begins_room ws b at x = omega (arith, x.place, class_room ws b x.number x.is_open)
