-- The series of a class on either side of a month and a strike: the words that they take, and what a new series, new
-- marks and a removal make of them, from the three parts by month and then by strike. Assumes nothing.
use Prim.Native.Nat.{ℕ, suc, ◌+◌, ◌≤◌, ◌<◌, zero-le}
use mathlib.Core.Path.{◌≡◌, refl, sym, ap, ◌∙◌, subst}
use mathlib.Core.Bool.{Bool, true, false, cond, not}
use mathlib.Core.List.{List, [], ◌∷◌, ◌++◌, map, map-append, append_assoc}
use mathlib.Core.Logic.{inl, inr}
use native.Mathlib.Omega.{arith}
use lib.ListN.{length, length-append, length-map}
use lib.Dec.{T, eqb, leb, ltb, leb→le, le→leb, ltb→lt, lt→ltb, eqb→eq, eqb_refl, not_T}
use borrow.Author.Tests.{ltb-true, ltb-false, eq-eqb, ne_eqb, not-true}
use Rattle.word.specs.Codec.{Word, Expiration}
use Rattle.logic.specs.Lists.{every, some, only, Rising}
use Rattle.book.specs.Facts.{Series, is_at, stands, in_month, with_marks, precedes, insert_series}
use Rattle.book.specs.Layout.{strike_word, expiration_unless, series_words}
use Rattle.book.specs.Books.{is_series}
use Rattle.logic.proofs.Tests.{and_intro, ands, T_true, or_left, or_right}
use Rattle.logic.proofs.Lists.{every_imply, every_only, ordered, rises_ordered, rises_only, rising_keys}
use Rattle.book.proofs.Forms.{are_series}
use Rattle.book.proofs.Layouts.{series_words_append}
use Rattle.book.proofs.SeriesLaws.{Precedes, to_precedes, months_rise, is_with, series_order, marked_at}
use Rattle.logic.proofs.Parts.{only_absent, every_kept, only_others, some_only, some_all, some_both, some_after, map_same, every_append, ordered_imply, inserted_between, is_under, is_equal, is_over, not_under, three_parts, distinct_parts, Single, single}

abbrev pub month_of : Series → ℕ
month_of s = s.month

abbrev pub strike_of : Series → ℕ
strike_of s = s.strike

-- ---- the words by expiration

-- where the expiration that stands already is an earlier one
words_anew :
    (p m : ℕ) (ss : List Series) (rest : List Word) → p ≤ m → T (every (λ s. leb m s.month) ss)
    → series_words p ss rest ≡ series_words 0 ss rest
words_anew p m [] rest l t = refl
words_anew p m (s ∷ ss) rest l t =
    let k : m ≤ s.month = leb→le m s.month (search ands) in
    rw (ne_eqb p (suc s.month) (λ e. omega arith), ne_eqb 0 (suc s.month) (λ e. omega arith))

-- series of earlier expirations, then others
words_from :
    (p m : ℕ) (early ss : List Series) (rest : List Word) → p ≤ m → T (every (is_under month_of m) early)
    → T (every (λ s. leb m s.month) ss)
    → series_words p (early ++ ss) rest ≡ series_words p early (series_words 0 ss rest)
words_from p m [] ss rest l t u = words_anew p m ss rest l u
words_from p m (s ∷ early) ss rest l t u =
    ap (λ (ws : List Word). expiration_unless (eqb p (suc s.month)) s.month (strike_word s ∷ ws))
    (words_from (suc s.month) m early ss rest (ltb→lt s.month m (search ands)) (search ands) u)

-- series of the expiration that stands already, then later ones
words_in :
    (m : ℕ) (here late : List Series) (rest : List Word) → T (every (is_equal month_of m) here)
    → T (every (is_over month_of m) late)
    → series_words (suc m) (here ++ late) rest ≡ map strike_word here ++ series_words 0 late rest
words_in m [] late rest t u =
    words_anew (suc m) (suc m) late rest (omega arith)
    (every_imply (is_over month_of m) (λ s. leb (suc m) s.month) (λ s l. l) late u)
words_in m (s ∷ here) late rest t u =
    let e : s.month ≡ m = eqb→eq s.month m (search ands) in
    rw (e, eq-eqb (suc m) (suc m) refl)
    (ap (λ (ws : List Word). strike_word s ∷ ws) (words_in m here late rest (search ands) u))

pub series_apart :
    (p m : ℕ) (early ss : List Series) (rest : List Word) → p ≤ m → T (every (is_under month_of m) early)
    → T (every (λ s. leb m s.month) ss)
    → series_words p (early ++ ss) rest ≡ series_words p early [] ++ series_words 0 ss rest
series_apart p m early ss rest l t u =
    words_from p m early ss rest l t u ∙ series_words_append p early [] (series_words 0 ss rest)

-- the words of one expiration between those of earlier and of later ones
month_words :
    (m : ℕ) (early here late : List Series) (rest : List Word) → T (every (is_under month_of m) early)
    → T (every (is_equal month_of m) here) → T (every (is_over month_of m) late)
    → series_words 0 (early ++ (here ++ late)) rest
    ≡ series_words 0 early []
    ++ expiration_unless (not (some (is_equal month_of m) here)) m (map strike_word here ++ series_words 0 late rest)
month_words m early here late rest t u v =
    series_apart 0 m early (here ++ late) rest zero-le t (not_under month_of m here late u v)
    ∙ ap (λ (ws : List Word). series_words 0 early [] ++ ws) (headed here u)
  where
    headed :
        (ss : List Series) → T (every (is_equal month_of m) ss)
        → series_words 0 (ss ++ late) rest
        ≡ expiration_unless (not (some (is_equal month_of m) ss)) m (map strike_word ss ++ series_words 0 late rest)
    headed [] a = refl
    headed (s ∷ ss) a =
        let e : s.month ≡ m = eqb→eq s.month m (search ands) in
        rw (e, ne_eqb 0 (suc m) (λ q. omega arith), eq-eqb m m refl)
        (ap (λ (ws : List Word). Expiration m ∷ strike_word s ∷ ws) (words_in m ss late rest (search ands) v))

module _ (now m : ℕ) (ss : List Series) (t : T (are_series now ss)) where
  pub month_parts : ss ≡ only (is_under month_of m) ss ++ (in_month m ss ++ only (is_over month_of m) ss)
  month_parts =
      three_parts month_of m ss
      (ordered_imply (is_series now) precedes (λ s u. leb s.month u.month)
      (λ s u a b p. le→leb s.month u.month (months_rise s u p)) ss (search ands)
      (rises_ordered is_with precedes series_order ss (search ands)))

  -- the words before the month m, its expiration and its strikes, and the words after them
  pub series_words_lem :
      (rest : List Word)
      → series_words 0 ss rest
      ≡ series_words 0 (only (is_under month_of m) ss) []
      ++ expiration_unless (not (some (is_equal month_of m) ss)) m
      (map strike_word (in_month m ss) ++ series_words 0 (only (is_over month_of m) ss) rest)
  series_words_lem rest =
      let early = only (is_under month_of m) ss in
      let late = only (is_over month_of m) ss in
      ap (λ (l : List Series). series_words 0 l rest) month_parts
      ∙ month_words m early (in_month m ss) late rest (every_kept (is_under month_of m) ss)
      (every_kept (is_equal month_of m) ss) (every_kept (is_over month_of m) ss)
      ∙ ap
      (λ (b : Bool).
      series_words 0 early []
      ++ expiration_unless (not b) m (map strike_word (in_month m ss) ++ series_words 0 late rest))
      (some_only (is_equal month_of m) ss)

-- ---- the series on either side of a month and a strike

module _ (ss : List Series) (m h : ℕ) where
  -- the series of earlier months; of the month m those below the strike h, at it and above it; the series of later
  -- months
  abbrev early : List Series
  early = only (is_under month_of m) ss

  abbrev pub low : List Series
  low = only (is_under strike_of h) (in_month m ss)

  abbrev pub placed : List Series
  placed = only (is_equal strike_of h) (in_month m ss)

  abbrev pub high : List Series
  high = only (is_over strike_of h) (in_month m ss)

  abbrev late : List Series
  late = only (is_over month_of m) ss

  -- the series with those of x at m and h
  abbrev pub around : List Series → List Series
  around x = (early ++ low) ++ (x ++ (high ++ late))

  every_before :
      (p : Series → Bool) → ((s : Series) → s.month < m → T (p s))
      → ((s : Series) → s.month ≡ m → s.strike < h → T (p s)) → T (every p (early ++ low))
  every_before p f g =
      every_append p early low
      (every_imply (is_under month_of m) p (λ s l. f s (ltb→lt s.month m l)) early
      (every_kept (is_under month_of m) ss))
      (every_only (is_equal month_of m) p (is_under strike_of h)
      (λ s l e. g s (eqb→eq s.month m e) (ltb→lt s.strike h l)) (in_month m ss)
      (every_kept (is_equal month_of m) ss))

  every_after :
      (p : Series → Bool) → ((s : Series) → m < s.month → T (p s))
      → ((s : Series) → s.month ≡ m → h < s.strike → T (p s)) → T (every p (high ++ late))
  every_after p f g =
      every_append p high late
      (every_only (is_equal month_of m) p (is_over strike_of h)
      (λ s l e. g s (eqb→eq s.month m e) (ltb→lt h s.strike l)) (in_month m ss)
      (every_kept (is_equal month_of m) ss))
      (every_imply (is_over month_of m) p (λ s l. f s (ltb→lt m s.month l)) late (every_kept (is_over month_of m) ss))

  -- whether the month has series
  abbrev has : Bool
  has = some (is_equal month_of m) ss

  -- whether it has others than those at m and h
  abbrev pub others : Bool
  others = some (is_equal month_of m) (low ++ high)

  -- the words before those at m and h, with its expiration's word or without, and the words after them, before `rest`
  abbrev pub words_before : Bool → List Word
  words_before stands = series_words 0 early [] ++ expiration_unless (not stands) m (map strike_word low)

  abbrev pub words_after : List Word → List Word
  words_after rest = map strike_word high ++ series_words 0 late rest

  pub length_before :
      (stands : Bool)
      → length (words_before stands) ≡ length (series_words 0 early []) + cond {A = ℕ} stands 1 0 + length low
  length_before true = simp (length-append, length-map) (omega arith)
  length_before false = simp (length-append, length-map) (omega arith)

  in_month_lem : (p : Series → Bool) → T (every (is_equal month_of m) (only p (in_month m ss)))
  in_month_lem p =
      every_only (is_equal month_of m) (is_equal month_of m) p (λ s k t. t) (in_month m ss)
      (every_kept (is_equal month_of m) ss)

  -- the words with the series of x at m and h
  words_around :
      (x : List Series) (rest : List Word) → T (every (is_equal month_of m) x)
      → series_words 0 (around x) rest
      ≡ series_words 0 early []
      ++ expiration_unless (not (some (is_equal month_of m) (low ++ (x ++ high)))) m
      (map strike_word (low ++ (x ++ high)) ++ series_words 0 late rest)
  words_around x rest t =
      ap (λ (l : List Series). series_words 0 l rest) regrouped
      ∙ month_words m early (low ++ (x ++ high)) late rest (every_kept (is_under month_of m) ss)
      (every_append (is_equal month_of m) low (x ++ high) (in_month_lem (is_under strike_of h))
      (every_append (is_equal month_of m) x high t (in_month_lem (is_over strike_of h))))
      (every_kept (is_over month_of m) ss)
    where
      regrouped : around x ≡ early ++ ((low ++ (x ++ high)) ++ late)
      regrouped = simp append_assoc

  -- .. with the series y; its expiration's word is new where the month has no series
  pub around_words :
      (y : Series) (rest : List Word) → y.month ≡ m
      → series_words 0 (around (y ∷ [])) rest
      ≡ words_before has ++ (expiration_unless has m (strike_word y ∷ []) ++ words_after rest)
  around_words y rest e =
      words_around (y ∷ []) rest (and_intro (is_equal month_of m y) true there tt)
      ∙ ap
      (λ (b : Bool).
      series_words 0 early []
      ++ expiration_unless (not b) m (map strike_word (low ++ (y ∷ high)) ++ series_words 0 late rest))
      (T_true (some (is_equal month_of m) (low ++ (y ∷ high))) (some_after (is_equal month_of m) low y high there))
      ∙ go has refl
    where
      there : T (is_equal month_of m y)
      there = rw e (eqb_refl m)

      go :
          (b : Bool) → has ≡ b
          → series_words 0 early []
          ++ (Expiration m ∷ (map strike_word (low ++ (y ∷ high)) ++ series_words 0 late rest))
          ≡ words_before b ++ (expiration_unless b m (strike_word y ∷ []) ++ words_after rest)
      go true q = simp (map-append, append_assoc)
      go false q =
          let none : low ≡ [] = ap (only (is_under strike_of h)) (only_absent (is_equal month_of m) ss (rw q tt)) in
          simp (append_assoc, none)

  -- .. with none
  pub left_words : (rest : List Word) → series_words 0 (around []) rest ≡ words_before others ++ words_after rest
  left_words rest = words_around [] rest tt ∙ go others
    where
      go :
          (b : Bool)
          → series_words 0 early []
          ++ expiration_unless (not b) m (map strike_word (low ++ high) ++ series_words 0 late rest)
          ≡ words_before b ++ words_after rest
      go true = simp (map-append, append_assoc)
      go false = simp (map-append, append_assoc)

  -- the expiration's word goes with that of y where the month has no others
  pub alone_words :
      (y : Series) (rest : List Word)
      → words_before true ++ (strike_word y ∷ words_after rest)
      ≡ words_before others ++ (expiration_unless others m (strike_word y ∷ []) ++ words_after rest)
  alone_words y rest = go low (in_month_lem (is_under strike_of h))
    where
      go :
          (l : List Series) → T (every (is_equal month_of m) l)
          → (series_words 0 early [] ++ (Expiration m ∷ map strike_word l)) ++ (strike_word y ∷ words_after rest)
          ≡ (series_words 0 early []
          ++ expiration_unless (not (some (is_equal month_of m) (l ++ high))) m (map strike_word l))
          ++ (expiration_unless (some (is_equal month_of m) (l ++ high)) m (strike_word y ∷ []) ++ words_after rest)
      go [] t = first (some (is_equal month_of m) high)
        where
          first :
              (b : Bool)
              → (series_words 0 early [] ++ (Expiration m ∷ [])) ++ (strike_word y ∷ words_after rest)
              ≡ (series_words 0 early [] ++ expiration_unless (not b) m [])
              ++ (expiration_unless b m (strike_word y ∷ []) ++ words_after rest)
          first true = refl
          first false = simp append_assoc
      go (s ∷ l) t = rw (T_true (is_equal month_of m s) (search ands))

  module _ (now : ℕ) (t : T (are_series now ss)) where
    strikes_in_order : T (ordered (λ s u. ltb s.strike u.strike) (in_month m ss))
    strikes_in_order =
        ordered_imply (is_equal month_of m) precedes (λ s u. ltb s.strike u.strike)
        (λ s u e e' p.
        lt→ltb s.strike u.strike
        (strikes s u (eqb→eq s.month m e) (eqb→eq u.month m e') (to_precedes s u p)))
        (in_month m ss) (every_kept (is_equal month_of m) ss)
        (rises_ordered is_with precedes series_order (in_month m ss)
        (rises_only is_with precedes series_order (is_equal month_of m) ss (search ands)))
      where
        strikes : (s u : Series) → s.month ≡ m → u.month ≡ m → Precedes s u → s.strike < u.strike
        strikes s u e e' (inl a) = absurd (omega arith)
        strikes s u e e' (inr b) = b.1

    pub strikes_rise : Rising (map strike_of (in_month m ss))
    strikes_rise = rising_keys strike_of (in_month m ss) strikes_in_order

    pub strike_parts : in_month m ss ≡ low ++ (placed ++ high)
    strike_parts = distinct_parts strike_of h (in_month m ss) strikes_in_order

    -- the series at m and h, where one stands
    pub record Stander : Type 0 where
      pub it : Series
      pub month : it.month ≡ m
      pub strike : it.strike ≡ h
      pub limits : T (is_series now it)
      pub alone : placed ≡ it ∷ []

    pub stander : T (stands m h ss) → Stander
    stander u = record {
      it = one.it;
      month = eqb→eq one.it.month m (passes (is_equal month_of m) (every_kept (is_equal month_of m) ss));
      strike = one.has;
      limits =
          passes (is_series now)
          (every_only (is_series now) (is_series now) (is_equal month_of m) (λ s k l. l) ss (search ands));
      alone = one.alone;
    }
      where
        one : Single strike_of h (in_month m ss)
        one =
            single strike_of h (in_month m ss) strikes_in_order
            (rw (some_both (is_equal month_of m) (is_equal strike_of h) ss) u)

        passes : (p : Series → Bool) → T (every p (in_month m ss)) → T (p one.it)
        passes p l =
            let k : T (every p (one.it ∷ [])) =
            subst (λ (xs : List Series). T (every p xs)) one.alone
            (every_only p p (is_equal strike_of h) (λ s a b. b) (in_month m ss) l) in
            search ands

    around_placed : ss ≡ around placed
    around_placed =
        month_parts now m ss t ∙ ap (λ (l : List Series). early ++ (l ++ late)) strike_parts ∙ simp append_assoc

    pub placed_words :
        (rest : List Word) → series_words 0 ss rest ≡ words_before has ++ (map strike_word placed ++ words_after rest)
    placed_words rest =
        series_words_lem now m ss t rest
        ∙ ap
        (λ (l : List Series).
        series_words 0 early [] ++ expiration_unless (not has) m (map strike_word l ++ series_words 0 late rest))
        strike_parts
        ∙ go has
      where
        go :
            (b : Bool)
            → series_words 0 early []
            ++ expiration_unless (not b) m (map strike_word (low ++ (placed ++ high)) ++ series_words 0 late rest)
            ≡ words_before b ++ (map strike_word placed ++ words_after rest)
        go true = simp (map-append, append_assoc)
        go false = simp (map-append, append_assoc)

    pub inserted_around :
        (s : Series) → s.month ≡ m → s.strike ≡ h → placed ≡ [] → insert_series s ss ≡ around (s ∷ [])
    inserted_around s e e' none =
        ap (insert_series s) (around_placed ∙ ap around none)
        ∙ inserted_between precedes s (early ++ low) (high ++ late)
        (every_before (λ u. not (precedes s u))
        (λ u l. not_T (precedes s u) (λ p. earlier u l (to_precedes s u p)))
        (λ u q l. not_T (precedes s u) (λ p. lower u q l (to_precedes s u p))))
        (every_after (precedes s)
        (λ u l. let a : T (ltb s.month u.month) = lt→ltb s.month u.month (omega arith) in search or_left)
        (λ u q l.
        let a : T (eqb s.month u.month) = rw (e ∙ sym q) (eqb_refl u.month) in
        let b : T (ltb s.strike u.strike) = lt→ltb s.strike u.strike (omega arith) in
        search (or_right, and_intro)))
      where
        earlier : (u : Series) → u.month < m → Precedes s u → ⊥
        earlier u l (inl a) = omega arith
        earlier u l (inr b) = omega arith

        lower : (u : Series) → u.month ≡ m → u.strike < h → Precedes s u → ⊥
        lower u q l (inl a) = omega arith
        lower u q l (inr b) = omega arith

    apart : (u : Series) → (u.month ≡ m → u.strike ≡ h → ⊥) → T (not (is_at m h u))
    apart u f = not_T (is_at m h u) (λ p. f (eqb→eq u.month m (search ands)) (eqb→eq u.strike h (search ands)))

    elsewhere_before : T (every (λ u. not (is_at m h u)) (early ++ low))
    elsewhere_before =
        every_before (λ u. not (is_at m h u)) (λ u l. apart u (λ q q'. omega arith))
        (λ u r l. apart u (λ q q'. omega arith))

    elsewhere_after : T (every (λ u. not (is_at m h u)) (high ++ late))
    elsewhere_after =
        every_after (λ u. not (is_at m h u)) (λ u l. apart u (λ q q'. omega arith))
        (λ u r l. apart u (λ q q'. omega arith))

    pub removed_around :
        (s : Series) → s.month ≡ m → s.strike ≡ h → placed ≡ s ∷ [] → only (λ u. not (is_at m h u)) ss ≡ around []
    removed_around s e e' one =
        ap (only (λ u. not (is_at m h u))) (around_placed ∙ ap around one)
        ∙ only_others (λ u. not (is_at m h u)) (early ++ low) s (high ++ late) elsewhere_before
        (rw (eq-eqb s.month m e, eq-eqb s.strike h e')) elsewhere_after

    -- the one at m and h is alone in its month where this has no others
    pub alone_says :
        (k : ℕ) (s : Series) → placed ≡ s ∷ [] → eqb (k + length (in_month m ss)) (k + 1) ≡ not others
    alone_says k s one =
        let count : others ≡ ltb 0 (length (low ++ high)) =
        some_all (is_equal month_of m) (low ++ high)
        (every_append (is_equal month_of m) low high (in_month_lem (is_under strike_of h))
        (in_month_lem (is_over strike_of h))) in
        let all : length (in_month m ss) ≡ length low + suc (length high) =
        ap length (strike_parts ∙ ap (λ (l : List Series). low ++ (l ++ high)) one) ∙ length-append low (s ∷ high) in
        go (ltb 0 (length (low ++ high))) refl all ∙ ap not (sym count)
      where
        go :
            (b : Bool) → ltb 0 (length (low ++ high)) ≡ b → length (in_month m ss) ≡ length low + suc (length high)
            → eqb (k + length (in_month m ss)) (k + 1) ≡ not b
        go true e all =
            ne_eqb (k + length (in_month m ss)) (k + 1)
            (λ q. omega (arith, ltb-true 0 (length (low ++ high)) e, length-append low high))
        go false e all =
            eq-eqb (k + length (in_month m ss)) (k + 1)
            (omega (arith, ltb-false 0 (length (low ++ high)) e, length-append low high))

    pub marked_around :
        (s : Series) (a b : ℕ) → s.month ≡ m → s.strike ≡ h → placed ≡ s ∷ []
        → map (marked_at m h a b) ss ≡ around (with_marks a b s ∷ [])
    marked_around s a b e e' one =
        ap (map (marked_at m h a b)) (around_placed ∙ ap around one)
        ∙ map-append (marked_at m h a b) (early ++ low) (s ∷ (high ++ late))
        ∙ (λ i. before i ++ (here i ∷ after i))
      where
        unmarked : (us : List Series) → T (every (λ u. not (is_at m h u)) us) → map (marked_at m h a b) us ≡ us
        unmarked us n =
            map_same (λ u. not (is_at m h u)) (marked_at m h a b)
            (λ u k. rw (not-true (is_at m h u) (T_true (not (is_at m h u)) k))) us n

        before : map (marked_at m h a b) (early ++ low) ≡ early ++ low
        before = unmarked (early ++ low) elsewhere_before

        after : map (marked_at m h a b) (high ++ late) ≡ high ++ late
        after = unmarked (high ++ late) elsewhere_after

        here : marked_at m h a b s ≡ with_marks a b s
        here = rw (eq-eqb s.month m e, eq-eqb s.strike h e')
