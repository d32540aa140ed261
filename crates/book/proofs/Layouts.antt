-- A run is a book exactly when it is the layout of well-formed facts, which reading gives back: by induction on series
-- and classes. Assumes nothing.
use Prim.Native.Nat.{ℕ, zero, suc, ◌+◌, ◌-◌, ◌^◌, ◌≤◌}
use mathlib.Core.Path.{◌≡◌, refl, sym, ap, ◌∙◌, subst}
use mathlib.Core.Logic.{◌↔◌}
use mathlib.Core.Bool.{Bool, true, false, cond}
use mathlib.Core.List.{List, [], ◌∷◌, ◌++◌, map, map-append}
use native.Mathlib.Omega.{arith}
use lib.ListN.{length, replicate, length-append, length-map, length-replicate}
use lib.Dec.{T, eqb, leb, ltb, leb→le, le→leb, lt→ltb, eqb→eq, eqb_refl, eqb-suc-suc, eqb-zero-suc}
use borrow.Author.Tests.{eqb-true}
use Rattle.logic.specs.Lists.{sum, every}
use Rattle.word.specs.Codec.{Word, Invalid, is_legal, packed, reading}
use Rattle.word.specs.Limits.{is_length, is_month, longest_run}
use Rattle.word.specs.Head.{first_place}
use Rattle.word.specs.Kinds.{counter_kind, strikes_field}
use Rattle.word.specs.Programs.{is_program}
use Rattle.logic.proofs.Tests.{and_intro, ands, parts, T_true}
use Rattle.word.proofs.Words.{reading_packed}
use Rattle.word.proofs.RawWords.{figures_legal}
use Rattle.book.specs.Facts.{Series, OpenClass, Facts, fresh, owned, strikes_on, expirations, words_taken, words_of}
use Rattle.word.specs.Figures.{figures_words}
use Rattle.book.specs.Layout.{strike_word, expiration_unless, series_words, classes_words, used, counter_of, head_words, layout, Tail, tail_of, add_class, add_series, set_close, set_volume, add_day_price, read_from, facts_in, facts_of}
use Rattle.book.specs.Books.{is_series, is_class, is_well_formed, same_words, is_book}
use Rattle.logic.proofs.Parts.{every_append}
use Rattle.book.proofs.ProgramTable.{tabled}
use Rattle.book.proofs.Forms.{well}
use Rattle.book.proofs.Counted.{strikes_few}
use Rattle.book.proofs.LegalWords.{strike_legal, month_legal}

-- ---- reading the words of facts

-- one series, whether its expiration stands already or not
read_strike :
    (p : ℕ) (s : Series) (rest : List Word) (ss : List Series) (xs : List OpenClass) (stands : Bool)
    → eqb p (suc s.month) ≡ stands
    → read_from (suc s.month) rest ≡ tail_of ss xs
    → read_from p (expiration_unless stands s.month (strike_word s ∷ rest)) ≡ tail_of (s ∷ ss) xs
read_strike p s rest ss xs true e next = rw (eqb-true p (suc s.month) e) (ap (add_series s) next)
read_strike p s rest ss xs false e next = ap (add_series s) next

read_series :
    (p : ℕ) (ss : List Series) (rest : List Word) (xs : List OpenClass) → ((q : ℕ) → read_from q rest ≡ tail_of [] xs)
    → read_from p (series_words p ss rest) ≡ tail_of ss xs
read_series p [] rest xs ends = ends p
read_series p (s ∷ ss) rest xs ends =
    read_strike p s (series_words (suc s.month) ss rest) ss xs (eqb p (suc s.month)) refl
    (read_series (suc s.month) ss rest xs ends)

read_classes :
    (xs : List OpenClass) (rest : List Word) → ((q : ℕ) → read_from q rest ≡ tail_of [] [])
    → (q : ℕ) → read_from q (classes_words xs rest) ≡ tail_of [] xs
read_classes [] rest ends q = ends q
read_classes (x ∷ xs) rest ends q =
    let r = x.figures in
    ap
    (λ (t : Tail).
    add_class r.number r.designations
    (set_close r.close (set_volume r.volume (add_day_price r.low (add_day_price r.high t)))))
    (read_series 0 x.series (classes_words xs rest) xs (read_classes xs rest ends))

-- reading the words of any facts, before words that add none, gives the facts back
pub facts_in_layout :
    (f : Facts) (rest : List Word) → ((q : ℕ) → read_from q rest ≡ tail_of [] [])
    → facts_in (head_words f ++ classes_words f.classes rest) ≡ f
facts_in_layout f rest ends =
    ap (λ (t : Tail). record { now = f.now; classes = t.classes }) (read_classes f.classes rest ends 0)

-- ---- what follows the words of the classes

expiration_append :
    (stands : Bool) (m : ℕ) (ws rest : List Word)
    → expiration_unless stands m (ws ++ rest) ≡ expiration_unless stands m ws ++ rest
expiration_append true m ws rest = refl
expiration_append false m ws rest = refl

pub series_words_append :
    (p : ℕ) (ss : List Series) (ws rest : List Word) → series_words p ss (ws ++ rest) ≡ series_words p ss ws ++ rest
series_words_append p [] ws rest = refl
series_words_append p (s ∷ ss) ws rest =
    let m = s.month in
    ap (λ (l : List Word). expiration_unless (eqb p (suc m)) m (strike_word s ∷ l))
    (series_words_append (suc m) ss ws rest)
    ∙ expiration_append (eqb p (suc m)) m (strike_word s ∷ series_words (suc m) ss ws) rest

pub classes_words_append : (xs : List OpenClass) (rest : List Word)
    → classes_words xs rest ≡ classes_words xs [] ++ rest
classes_words_append [] rest = refl
classes_words_append (x ∷ xs) rest =
    ap (figures_words x.figures)
    (ap (series_words 0 x.series) (classes_words_append xs rest)
    ∙ series_words_append 0 x.series (classes_words xs []) rest)

-- ---- the words that facts take

length_expiration :
    (stands : Bool) (m : ℕ) (ws : List Word)
    → length (expiration_unless stands m ws) ≡ cond {A = ℕ} stands 0 1 + length ws
length_expiration true m ws = omega arith
length_expiration false m ws = omega arith

-- after the series s, whose expiration stands
length_after :
    (s : Series) (ss : List Series) (rest : List Word)
    → suc (length (series_words (suc s.month) ss rest)) ≡ expirations (s ∷ ss) + length ss + length rest
length_after s [] rest = omega arith
length_after s (t ∷ ts) rest =
    let m = t.month in
    rw (eqb-suc-suc s.month m)
    (omega (
      arith,
      length_expiration (eqb s.month m) m (strike_word t ∷ series_words (suc m) ts rest),
      length_after t ts rest,
    ))

length_series :
    (ss : List Series) (rest : List Word) → length (series_words 0 ss rest) ≡ expirations ss + length ss + length rest
length_series [] rest = omega arith
length_series (s ∷ ss) rest = rw (eqb-zero-suc s.month) (omega (arith, length_after s ss rest))

length_classes :
    (xs : List OpenClass) → length (classes_words xs []) ≡ sum words_of xs
length_classes [] = refl
length_classes (x ∷ xs) = omega (arith, length_series x.series (classes_words xs []), length_classes xs)

pub used_taken : (f : Facts) → used f ≡ words_taken f
used_taken f = omega (arith, length_classes f.classes)

pub layout_length : (n : ℕ) (f : Facts) → used f ≤ n → length (layout n f) ≡ n
unfolding layout
layout_length n f fits = simp (length-append, length-map, length-replicate) (omega arith)

-- ---- the words of well-formed facts are legal

module _ (now : ℕ) where
  expiration_legal :
      (s : Series) (rest : List Word) (stands : Bool) → T (is_series now s) → T (every is_legal rest)
      → T (every is_legal (expiration_unless stands s.month (strike_word s ∷ rest)))
  expiration_legal s rest true good legal = let l = strike_legal now s good in search and_intro
  expiration_legal s rest false good legal =
      let l = strike_legal now s good in
      let m = month_legal now s good in
      search and_intro

  series_legal :
      (p : ℕ) (ss : List Series) (rest : List Word) → T (every (is_series now) ss) → T (every is_legal rest)
      → T (every is_legal (series_words p ss rest))
  series_legal p [] rest good legal = legal
  series_legal p (s ∷ ss) rest good legal =
      expiration_legal s (series_words (suc s.month) ss rest) (eqb p (suc s.month)) (search ands)
      (series_legal (suc s.month) ss rest (search ands) legal)

  classes_legal : (xs : List OpenClass) → T (every (is_class now) xs) → T (every is_legal (classes_words xs []))
  classes_legal [] good = tt
  classes_legal (x ∷ xs) good =
      let f = figures_legal x.figures (search ands) in
      let l = series_legal 0 x.series (classes_words xs []) (search ands) (classes_legal xs (search ands)) in
      search and_intro

-- every word of well-formed classes is legal
pub words_legal :
    (now : ℕ) (xs : List OpenClass) → T (every (is_class now) xs) → every is_legal (classes_words xs []) ≡ true
words_legal now xs good = T_true (every is_legal (classes_words xs [])) (classes_legal now xs good)

-- ---- reading inverts the layout

read_words : (ws : List Word) → every is_legal ws ≡ true → map reading (map packed ws) ≡ ws
read_words [] legal = refl
read_words (w ∷ ws) legal =
    let first = reading_packed w (search parts) in
    let rest = read_words ws (search parts) in
    λ i. first i ∷ rest i

read_zeros : (k : ℕ) → map reading (replicate k 0) ≡ replicate k Invalid
unfolding reading
read_zeros zero = refl
read_zeros (suc k) = ap (λ (l : List Word). Invalid ∷ l) (read_zeros k)

invalid_ends : (k q : ℕ) → read_from q (replicate k Invalid) ≡ tail_of [] []
invalid_ends zero q = refl
invalid_ends (suc k) q = refl

-- the counters of well-formed facts hold what they count
pub counter_legal :
    (n : ℕ) (f : Facts) → T (is_well_formed n f) → (p : ℕ) → T (is_program p) → T (is_legal (counter_of f.classes p))
counter_legal n f good p k =
    let w = well n f good in
    let long = w.run in
    let xs = f.classes in
    let own : T (ltb (owned p xs) (2 ^ counter_kind.width)) =
    lt→ltb (owned p xs) (2 ^ counter_kind.width) (omega (arith, w.caps p k, (tabled p k).cap)) in
    let strikes : T (ltb (strikes_on p xs) (2 ^ strikes_field.width)) =
    lt→ltb (strikes_on p xs) (2 ^ strikes_field.width)
    (omega (arith, strikes_few p xs, used_taken f, w.room, leb→le n longest_run (search ands))) in
    and_intro (ltb (owned p xs) (2 ^ counter_kind.width)) (ltb (strikes_on p xs) (2 ^ strikes_field.width)) own strikes

head_legal : (n : ℕ) (f : Facts) → T (is_well_formed n f) → T (every is_legal (head_words f))
head_legal n f good =
    let w = well n f good in
    let long = w.run in
    let month : T (is_month f.now) = w.month in
    let low : T (leb first_place (used f)) = le→leb first_place (used f) (omega arith) in
    let high : T (leb (used f) longest_run) =
    le→leb (used f) longest_run (omega (arith, w.room, used_taken f, leb→le n longest_run (search ands))) in
    let first = counter_legal n f good 1 tt in
    let second = counter_legal n f good 2 tt in
    let third = counter_legal n f good 3 tt in
    search and_intro

-- every word of well-formed facts is legal
pub facts_legal :
    (n : ℕ) (f : Facts) → T (is_well_formed n f) → T (every is_legal (head_words f ++ classes_words f.classes []))
facts_legal n f good =
    every_append is_legal (head_words f) (classes_words f.classes []) (head_legal n f good)
    (classes_legal f.now f.classes (well n f good).limits)

pub facts_of_layout : (n : ℕ) (f : Facts) → T (is_well_formed n f) → facts_of (layout n f) ≡ f
unfolding facts_of layout
facts_of_layout n f good =
    let k = n - used f in
    let ws = head_words f ++ classes_words f.classes [] in
    let words :
    map reading (map packed ws ++ replicate k 0) ≡ head_words f ++ classes_words f.classes (replicate k Invalid) =
    map-append reading (map packed ws) (replicate k 0)
    ∙ (λ i. read_words ws (T_true (every is_legal ws) (facts_legal n f good)) i ++ read_zeros k i)
    ∙ ap (λ (l : List Word). head_words f ++ l) (sym (classes_words_append f.classes (replicate k Invalid))) in
    ap facts_in words ∙ facts_in_layout f (replicate k Invalid) (invalid_ends k)

pub layout_injective :
    (n : ℕ) (f g : Facts) → T (is_well_formed n f) → T (is_well_formed n g) → layout n f ≡ layout n g → f ≡ g
layout_injective n f g good-f good-g e = sym (facts_of_layout n f good-f) ∙ ap facts_of e ∙ facts_of_layout n g good-g

-- ---- the books are the layouts of well-formed facts

pub same_words_lem : (ws : List ℕ) → T (same_words ws ws)
same_words_lem [] = tt
same_words_lem (w ∷ ws) = and_intro (eqb w w) (same_words ws ws) (eqb_refl w) (same_words_lem ws)

pub words_equal : (vs ws : List ℕ) → T (same_words vs ws) → vs ≡ ws
words_equal [] [] t = refl
words_equal [] (w ∷ ws) t = absurd t
words_equal (v ∷ vs) [] t = absurd t
words_equal (v ∷ vs) (w ∷ ws) t = λ i. eqb→eq v w (search ands) i ∷ words_equal vs ws (search ands) i

pub book_layout : (n : ℕ) (f : Facts) → T (is_well_formed n f) → T (is_book (layout n f))
unfolding is_book is_well_formed
book_layout n f good =
    let fits : words_taken f ≤ n = leb→le (words_taken f) n (search ands) in
    let long : length (layout n f) ≡ n = layout_length n f (omega (arith, used_taken f)) in
    let ws = layout n f in
    rw (long, facts_of_layout n f good) (and_intro (is_well_formed n f) (same_words ws ws) good (same_words_lem ws))

pub book_facts :
    (ws : List ℕ) → T (is_book ws)
    → T (is_well_formed (length ws) (facts_of ws)) × (layout (length ws) (facts_of ws) ≡ ws)
unfolding is_book
book_facts ws book = (search ands, words_equal (layout (length ws) (facts_of ws)) ws (search ands))

pub book_exactly :
    (ws : List ℕ) → T (is_book ws) ↔ ((f : Facts) × (T (is_well_formed (length ws) f) × (layout (length ws) f ≡ ws)))
book_exactly ws = (
  λ book. (facts_of ws, book_facts ws book),
  λ p. subst (λ (l : List ℕ). T (is_book l)) p.1.1 (book_layout (length ws) p.0 p.1.0),
)

pub fresh_well_formed : (n : ℕ) → T (is_length n) → T (is_well_formed n fresh)
unfolding is_well_formed
fresh_well_formed n long = let fits : T (leb first_place n) = search ands in search and_intro
