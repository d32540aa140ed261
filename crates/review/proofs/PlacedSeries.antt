-- The series of a class in their order, and their words: those of a part stand behind those of the part before it, one
-- series more has a strike word and at most an expiration word before it. By induction on the series. Assumes nothing.
use Prim.Native.Nat.{ℕ, suc, ◌+◌, ◌≤◌, ◌<◌}
use mathlib.Core.Path.{◌≡◌, refl, sym, ap, ◌∙◌}
use mathlib.Core.Bool.{Bool, true, false, cond}
use mathlib.Core.List.{List, [], ◌∷◌, ◌++◌, map, map-append}
use native.Mathlib.Nat.{le_refl}
use native.Mathlib.Omega.{arith}
use lib.Dec.{T, eqb, ltb}
use lib.ListN.{length, length-append, length-map}
use borrow.Author.Tests.{eqb-true, eqb-false, eq-eqb, ne_eqb, lt-ltb}
use Rattle.logic.specs.Lists.{rises, every, only}
use Rattle.logic.proofs.Tests.{ands}
use Rattle.logic.proofs.Parts.{only_append}
use Rattle.word.specs.Codec.{Word, Expiration, packed}
use Rattle.book.specs.Facts.{Series, precedes}
use Rattle.book.specs.Layout.{strike_word, expiration_unless, series_words}
use Rattle.book.specs.Books.{is_series}
use Rattle.book.proofs.SeriesLaws.{months_rise}
use Rattle.book.proofs.Layouts.{series_words_append}
use Rattle.book.proofs.Forms.{are_series}
use Rattle.review.specs.ReviewSteps.{words_of_series}
use Rattle.review.specs.Marks.{standing, count_of}

-- ---- the order

module _ (now : ℕ) where
  -- in its limits, and not before the expiration that p stands for
  pub record Placed (p : ℕ) (s : Series) : Type 0 where
    pub order : p ≤ suc s.month
    pub limits : T (is_series now s)

  abbrev pub AllPlaced : ℕ → List Series → Type 0
  AllPlaced p [] = Unit {0}
  AllPlaced p (s ∷ ss) = Placed p s × AllPlaced (suc s.month) ss

  placed_from :
      (p : ℕ) (s : Series) (ss : List Series) → p ≤ suc s.month → T (every (is_series now) (s ∷ ss))
      → T (rises precedes (s ∷ ss)) → AllPlaced p (s ∷ ss)
  placed_from p s [] l t r = (record { order = l; limits = search ands }, tt)
  placed_from p s (u ∷ us) l t r =
      let o : T (precedes s u) = search ands in (
        record { order = l; limits = search ands },
        placed_from (suc s.month) u us (omega (arith, months_rise s u o)) (search ands) (search ands),
      )

  pub placed : (ss : List Series) → T (are_series now ss) → AllPlaced 0 ss
  placed [] t = tt
  placed (s ∷ ss) t = placed_from 0 s ss (omega arith) (search ands) (search ands)

  pub placed_after : {p : ℕ} {s : Series} (q : ℕ) → q ≤ suc s.month → Placed p s → Placed q s
  placed_after q l a = record { order = l; limits = a.limits }

  lower : (p q : ℕ) (ss : List Series) → p ≤ q → AllPlaced q ss → AllPlaced p ss
  lower p q [] l a = tt
  lower p q (s ∷ ss) l a = (placed_after p (let o = a.0.order in omega arith) a.0, a.1)

  pub placed_only : (f : Series → Bool) (p : ℕ) (ss : List Series) → AllPlaced p ss → AllPlaced p (only f ss)
  placed_only f p [] a = tt
  placed_only f p (s ∷ ss) a = go (f s) (placed_only f (suc s.month) ss a.1)
    where
      go : (b : Bool) → AllPlaced (suc s.month) (only f ss) → AllPlaced p (cond b (s ∷ only f ss) (only f ss))
      go true r = (a.0, r)
      go false r = lower p (suc s.month) (only f ss) a.0.order r

  pub placed_parts :
      (p : ℕ) (ss ts : List Series) → AllPlaced p (ss ++ ts) → AllPlaced p ss × AllPlaced (standing p ss) ts
  placed_parts p [] ts a = (tt, a)
  placed_parts p (s ∷ ss) ts a =
      let r = placed_parts (suc s.month) ss ts a.1 in
      ((a.0, r.0), r.1)

  -- ---- how many are of an expiration

  -- none of one before them
  pub count_later : (p q : ℕ) (ss : List Series) → p < q → AllPlaced q ss → count_of p ss ≡ 0
  count_later p q [] l a = refl
  count_later p q (s ∷ ss) l a =
      let o = a.0.order in
      rw (ne_eqb (suc s.month) p (λ e. omega arith)) (count_later p (suc s.month) ss (omega arith) a.1)

  -- none of one behind them
  pub count_earlier : (m p : ℕ) (ss : List Series) → AllPlaced p ss → standing p ss ≤ m → count_of (suc m) ss ≡ 0
  count_earlier m p [] a l = refl
  count_earlier m p (s ∷ ss) a l =
      let o = standing_up (suc s.month) ss a.1 in
      rw (ne_eqb (suc s.month) (suc m) (λ e. omega arith)) (count_earlier m (suc s.month) ss a.1 l)
    where
      standing_up : (p : ℕ) (ss : List Series) → AllPlaced p ss → p ≤ standing p ss
      standing_up p [] a = le_refl p
      standing_up p (s ∷ ss) a = let o = a.0.order in omega (arith, standing_up (suc s.month) ss a.1)

  -- some of the last one
  pub count_last : (m p : ℕ) (ss : List Series) → (p ≡ suc m → ⊥) → standing p ss ≡ suc m → 0 < count_of (suc m) ss
  count_last m p [] n e = absurd (n e)
  count_last m p (s ∷ ss) n e = go (eqb (suc s.month) (suc m)) refl (λ n'. count_last m (suc s.month) ss n' e)
    where
      rest : List Series
      rest = only (λ t. eqb (suc t.month) (suc m)) ss

      go :
          (b : Bool) → eqb (suc s.month) (suc m) ≡ b → ((suc s.month ≡ suc m → ⊥) → 0 < length rest)
          → 0 < length (cond b (s ∷ rest) rest)
      go true q ih = omega arith
      go false q ih = ih (eqb-false (suc s.month) (suc m) q)

pub count_joined : (p : ℕ) (ss ts : List Series) → count_of p (ss ++ ts) ≡ count_of p ss + count_of p ts
count_joined p ss ts =
    let test : Series → Bool = λ t. eqb (suc t.month) p in
    ap length (only_append test ss ts) ∙ length-append (only test ss) (only test ts)

-- ---- the words of a part behind those of another

-- the words of ts behind those of ss: the expiration that stands already is not written again
abbrev pub words_behind : List Series → List Series → List ℕ
words_behind ss ts = map packed (series_words (standing 0 ss) ts [])

series_joined :
    (p : ℕ) (ss ts : List Series) (rest : List Word)
    → series_words p (ss ++ ts) rest ≡ series_words p ss (series_words (standing p ss) ts rest)
series_joined p [] ts rest = refl
series_joined p (s ∷ ss) ts rest =
    ap (λ (l : List Word). expiration_unless (eqb p (suc s.month)) s.month (strike_word s ∷ l))
    (series_joined (suc s.month) ss ts rest)

pub words_joined : (ss ts : List Series) → words_of_series (ss ++ ts) ≡ words_of_series ss ++ words_behind ss ts
words_joined ss ts =
    ap (map packed) (series_joined 0 ss ts [] ∙ series_words_append 0 ss [] (series_words (standing 0 ss) ts []))
    ∙ map-append packed (series_words 0 ss []) (series_words (standing 0 ss) ts [])

each_strike : (p : ℕ) (ss : List Series) → length ss ≤ length (series_words p ss [])
each_strike p [] = omega arith
each_strike p (s ∷ ss) =
    let rest = strike_word s ∷ series_words (suc s.month) ss [] in
    omega (arith, each_strike (suc s.month) ss, one_more (eqb p (suc s.month)) rest)
  where
    one_more : (b : Bool) (ws : List Word) → length ws ≤ length (expiration_unless b s.month ws)
    one_more true ws = omega arith
    one_more false ws = omega arith

-- each series has a word of its own, and the first an expiration word before it
pub words_more : (ss : List Series) → 0 < length ss → length ss < length (words_of_series ss)
words_more [] l = l
words_more (s ∷ ss) l =
    rw (ne_eqb 0 (suc s.month) (λ e. omega arith))
    (omega (arith, each_strike (suc s.month) ss, length-map (series_words (suc s.month) ss []) packed))

pub words_many : (ss : List Series) → length ss ≤ length (words_of_series ss)
words_many ss = omega (arith, each_strike 0 ss, length-map (series_words 0 ss []) packed)

-- ---- one series more at the end

pub standing_last : (p : ℕ) (ss : List Series) (s : Series) → standing p (ss ++ (s ∷ [])) ≡ suc s.month
standing_last p [] s = refl
standing_last p (t ∷ ss) s = standing_last (suc t.month) ss s

-- its expiration word, where it has one
abbrev pub expiration_of : Bool → Series → List ℕ
expiration_of stood s = map packed (expiration_unless stood s.month [])

pub words_last :
    (ss : List Series) (s : Series)
    → words_of_series (ss ++ (s ∷ []))
    ≡ words_of_series ss ++ (expiration_of (eqb (standing 0 ss) (suc s.month)) s ++ (packed (strike_word s) ∷ []))
words_last ss s =
    words_joined ss (s ∷ [])
    ∙ ap (λ (l : List ℕ). words_of_series ss ++ l) (go (eqb (standing 0 ss) (suc s.month)))
  where
    go :
        (stood : Bool) → map packed (expiration_unless stood s.month (strike_word s ∷ []))
        ≡ expiration_of stood s ++ (packed (strike_word s) ∷ [])
    go true = refl
    go false = refl

-- ---- series behind others

-- a strike of the expiration that stands
pub behind_strike :
    (s : Series) (b : Bool) (ss : List Series)
    → map packed (series_words (suc s.month) (cond b (s ∷ ss) ss) [])
    ≡ cond b (packed (strike_word s) ∷ map packed (series_words (suc s.month) ss []))
    (map packed (series_words (suc s.month) ss []))
behind_strike s true ss = rw (eq-eqb (suc s.month) (suc s.month) refl)
behind_strike s false ss = refl

module _ (now : ℕ) where
  -- behind an earlier expiration p: the word of m is there where a strike of m is
  pub behind_month :
      (p m : ℕ) (ss : List Series) → p ≤ m → AllPlaced now (suc m) ss
      → map packed (series_words p ss [])
      ≡ cond (ltb 0 (count_of (suc m) ss)) (packed (Expiration m) ∷ map packed (series_words (suc m) ss []))
      (map packed (series_words (suc m) ss []))
  behind_month p m [] l a = refl
  behind_month p m (s ∷ ss) l a =
      let o = a.0.order in
      rw (ne_eqb p (suc s.month) (λ e. omega arith)) (go (eqb (suc m) (suc s.month)) refl)
    where
      rest : List Word
      rest = strike_word s ∷ series_words (suc s.month) ss []

      go :
          (b : Bool) → eqb (suc m) (suc s.month) ≡ b
          → packed (Expiration s.month) ∷ map packed rest
          ≡ cond (ltb 0 (count_of (suc m) (s ∷ ss)))
          (packed (Expiration m) ∷ map packed (expiration_unless b s.month rest))
          (map packed (expiration_unless b s.month rest))
      go true e =
          let q = eqb-true (suc m) (suc s.month) e in
          let same : s.month ≡ m = omega arith in
          rw (eq-eqb (suc s.month) (suc m) (sym q), lt-ltb 0 (suc (count_of (suc m) ss)) (omega arith))
          (ap (λ (i : ℕ). packed (Expiration i) ∷ map packed rest) same)
      go false e =
          let o = a.0.order in
          let n = eqb-false (suc m) (suc s.month) e in
          rw (
            ne_eqb (suc s.month) (suc m) (λ q. n (sym q)),
            count_later now (suc m) (suc s.month) ss (omega (arith, n)) a.1,
          )
