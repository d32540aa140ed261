-- The words of a class's series, one word at a time: by cases on the first series and on whether its expiration stands
-- already. Assumes nothing.
use Prim.Native.Nat.{ℕ, suc, ◌≤◌, ◌<◌}
use mathlib.Core.Path.{◌≡◌, refl, sym, ap}
use mathlib.Core.Logic.{◌↔◌}
use mathlib.Core.Bool.{Bool, true, false, cond, ◌&&◌, ◌||◌}
use mathlib.Core.List.{List, [], ◌∷◌, map}
use native.Mathlib.Omega.{arith}
use lib.ListN.{drop, get_or}
use lib.Dec.{T, eqb, leb, ltb, leb→le, ltb→lt, lt→ltb, le→leb, eqb→eq}
use borrow.Author.Tests.{eqb-true, eqb-false, eq-eqb, ne_eqb}
use Rattle.logic.specs.Lists.{rises, every}
use Rattle.word.specs.Limits.{highest_strike}
use Rattle.word.specs.Strikes.{order_of, lowest_word, is_next_strike, is_first_strike}
use Rattle.word.specs.Kinds.{kind_of, key_of, below_kind, class_kind, expiration_kind, strike_kind, ground_field, put_field, call_field}
use Rattle.word.specs.Codec.{Word, Expiration, is_legal, packed}
use Rattle.word.specs.Field.{field, end}
use Rattle.book.specs.Facts.{Series, OpenClass, precedes}
use Rattle.word.specs.Figures.{class_word}
use Rattle.book.specs.Layout.{strike_word, expiration_unless, series_words, classes_words}
use Rattle.book.specs.Books.{is_listed, is_series, is_class}
use Rattle.word.proofs.Words.{kind_packed}
use Rattle.logic.proofs.Tests.{or_left, or_right, and_intro, ands, T_true, true_T, equal_test, or_else}
use Rattle.logic.proofs.Slices.{nil_cons}
use Rattle.word.proofs.StrikeOrder.{strike_order, expiration_order}
use Rattle.word.proofs.RawWords.{fits, figures_legal, IsStrike, bare, is_strike_above, strike_packed, strike_test, expiration_packed, expiration_field}
use Rattle.book.proofs.LegalWords.{strike_legal, month_legal}
use Rattle.scan.specs.NextStrikes.{next_length}
use Rattle.scan.specs.Stretches.{leads, may_follow, SeriesThen, are_strikes}
use Rattle.scan.proofs.ExpirationWords.{is_expiration_from}
use Rattle.scan.proofs.NextStrikes.{last_next, HasStrikes, next_strike, next_first, next_rises, next_above, above_next, above_none, next_rising}

-- the strike that a strike word says, in the expiration of the month m
abbrev series_in : ℕ → ℕ → Series
series_in m w =
    record {
      month = m;
      strike = key_of strike_kind w;
      on_ground = field w ground_field;
      put = field w put_field;
      call = field w call_field;
    }

-- a list rises where its first element comes before the next one and the rest rises
pub rises_first :
    {A : Type 0} (before : A → A → Bool) (x : A) (ys : List A)
    → rises before (x ∷ ys) ≡ (leads (before x) ys && rises before ys)
rises_first before x [] = refl
rises_first before x (y ∷ ys) = refl

-- the series comes after the strike h in the month m
abbrev is_after : ℕ → ℕ → Series → Bool
is_after m h = precedes (record { month = m; strike = h; on_ground = 0; put = 0; call = 0 })

-- of two series that follow each other: in one expiration the strike rises, else the month does
after_same : (m h : ℕ) (s : Series) → T (is_after m h s) → m ≡ s.month → h < s.strike
after_same m h s t e =
    let later = ltb m s.month in
    let higher : T (eqb m s.month && ltb h s.strike) =
    or_else later (eqb m s.month && ltb h s.strike) t (λ l. omega (arith, ltb→lt m s.month l)) in
    ltb→lt h s.strike (search ands)

after_other : (m h : ℕ) (s : Series) → T (is_after m h s) → (suc m ≡ suc s.month → ⊥) → T (may_follow (suc m) s)
after_other m h s t other = go (ltb m s.month) t
  where
    go : (later : Bool) → T (later || (eqb m s.month && ltb h s.strike)) → T later
    go true t = tt
    go false t = absurd (other (ap suc (eqb→eq m s.month (search ands))))

from_after : (m h : ℕ) (s : Series) → T (may_follow (suc m) s) → T (is_after m h s)
from_after m h s t = or_left (ltb m s.month) (eqb m s.month && ltb h s.strike) t

above_after : (h : ℕ) (s : Series) → h < s.strike → T (is_after s.month h s)
above_after h s l =
    let m = s.month in
    let same : T (eqb m m) = equal_test m m refl in
    let higher : T (ltb h s.strike) = lt→ltb h s.strike l in
    or_right (ltb m m) (eqb m m && ltb h s.strike) (search and_intro)

module _ (now : ℕ) where
  class_first :
      (xs : List OpenClass) (w : ℕ) (ws : List ℕ) → T (every (is_class now) xs)
      → map packed (classes_words xs []) ≡ w ∷ ws → kind_of w ≡ class_kind.number
  class_first [] w ws legal e = absurd (nil_cons w ws e)
  class_first (x ∷ xs) w ws legal e =
      let f = x.figures in
      let word = (figures_legal f (search ands)).class in
      kind_packed (class_word f) w (fits (class_word f) word) (cc)

module _ (now : ℕ) (xs : List OpenClass) (classes_legal : T (every (is_class now) xs)) where
  -- the classes' words, and those of series before them
  abbrev last : List Word
  last = classes_words xs []

  abbrev Words : ℕ → (Series → Bool) → List ℕ → Type 0
  Words p test ws = SeriesThen now p test xs ws

  -- those of the series after s
  abbrev After : Series → List ℕ → Type 0
  After s ws = Words (suc s.month) (precedes s) ws

  -- ---- what the first word is

  data First (p : ℕ) (test : Series → Bool) (w : ℕ) (ws : List ℕ) : Type 0 where
    class : kind_of w ≡ class_kind.number → map packed last ≡ w ∷ ws → First p test w ws
    strike :
        (s : Series) → p ≡ suc s.month → packed (strike_word s) ≡ w → T (is_series now s) → T (test s) → After s ws
        → First p test w ws
    expiration :
        (s : Series) (vs : List ℕ) → (p ≡ suc s.month → ⊥) → packed (Expiration s.month) ≡ w
        → packed (strike_word s) ∷ vs ≡ ws → T (is_series now s) → T (test s) → After s vs → First p test w ws

  first : {p : ℕ} {test : Series → Bool} {w : ℕ} {ws : List ℕ} → Words p test (w ∷ ws) → First p test w ws
  first {p} {test} {w} {ws} r = go r.series r.words r.legal r.rising r.leading
    where
      by :
          (s : Series) (ss : List Series) → T (every (is_series now) (s ∷ ss))
          → T (leads (precedes s) ss && rises precedes ss) → T (test s)
          → (stands : Bool) → eqb p (suc s.month) ≡ stands
          → map packed (expiration_unless stands s.month (strike_word s ∷ series_words (suc s.month) ss last))
          ≡ w ∷ ws
          → First p test w ws
      by s ss legal rising leading true q e =
          strike s (eqb-true p (suc s.month) q) (cc) (search ands) leading
          (record { series = ss; words = cc; legal = search ands; rising = search ands; leading = search ands })
      by s ss legal rising leading false q e =
          expiration s (map packed (series_words (suc s.month) ss last)) (eqb-false p (suc s.month) q) (cc) (cc)
          (search ands) leading
          (record { series = ss; words = refl; legal = search ands; rising = search ands; leading = search ands })

      go :
          (ss : List Series) → map packed (series_words p ss last) ≡ w ∷ ws → T (every (is_series now) ss)
          → T (rises precedes ss) → T (leads test ss) → First p test w ws
      go [] words legal rising leading = class (class_first now xs w ws classes_legal words) words
      go (s ∷ ss) words legal rising leading =
          by s ss legal (rw (rises_first precedes s ss) at rising) leading (eqb p (suc s.month)) refl words

  -- no words are the words of no series
  series_end : {p : ℕ} {test : Series → Bool} → Words p test [] → map packed last ≡ []
  series_end {p} r = go r.series r.words
    where
      by :
          (s : Series) (ws : List Word) (stands : Bool)
          → map packed (expiration_unless stands s.month (strike_word s ∷ ws)) ≡ [] → ⊥
      by s ws true e = nil_cons (packed (strike_word s)) (map packed ws) (sym e)
      by s ws false e = nil_cons (packed (Expiration s.month)) (packed (strike_word s) ∷ map packed ws) (sym e)

      go : (ss : List Series) → map packed (series_words p ss last) ≡ [] → map packed last ≡ []
      go [] e = e
      go (s ∷ ss) e = absurd (by s (series_words (suc s.month) ss last) (eqb p (suc s.month)) e)

  -- ---- building series

  no_series : {p : ℕ} {test : Series → Bool} {ws : List ℕ} → map packed last ≡ ws → Words p test ws
  no_series e = record { series = []; words = e; legal = tt; rising = tt; leading = tt }

  add :
      {test : Series → Bool} {ws vs : List ℕ} (p : ℕ) (s : Series) → T (is_series now s) → T (test s) → (r : After s ws)
      → map packed
      (expiration_unless (eqb p (suc s.month)) s.month
      (strike_word s ∷ series_words (suc s.month) r.series last))
      ≡ vs
      → Words p test vs
  add p s legal leading r e =
      let ss = r.series in
      record {
        series = s ∷ ss;
        words = e;
        legal = and_intro (is_series now s) (every (is_series now) ss) legal r.legal;
        rising =
            rw (rises_first precedes s ss)
            (and_intro (leads (precedes s) ss) (rises precedes ss) r.leading r.rising);
        leading = leading;
      }

  add_strike :
      {test : Series → Bool} {ws : List ℕ} (s : Series) → T (is_series now s) → T (test s) → After s ws
      → Words (suc s.month) test (packed (strike_word s) ∷ ws)
  add_strike s legal leading r =
      add (suc s.month) s legal leading r
      (rw (eq-eqb (suc s.month) (suc s.month) refl) (ap (λ (l : List ℕ). packed (strike_word s) ∷ l) r.words))

  add_expiration :
      {test : Series → Bool} {ws : List ℕ} (p : ℕ) (s : Series) → (p ≡ suc s.month → ⊥) → T (is_series now s)
      → T (test s) → After s ws → Words p test (packed (Expiration s.month) ∷ packed (strike_word s) ∷ ws)
  add_expiration p s other legal leading r =
      add p s legal leading r
      (rw (ne_eqb p (suc s.month) other)
      (ap (λ (l : List ℕ). packed (Expiration s.month) ∷ packed (strike_word s) ∷ l) r.words))

  -- ---- strikes

  module _ (m : ℕ) (listed : T (is_listed now m)) where
    -- a first word of a strike's kind is a strike above the last one
    strike_from_lem :
        (h w : ℕ) (ws : List ℕ) → kind_of w ≡ strike_kind.number → First (suc m) (is_after m h) w ws
        → T (is_strike_above h w) × Words (suc m) (is_after m (key_of strike_kind w)) ws
    strike_from_lem h w ws kind (class k e) = absurd (omega arith)
    strike_from_lem h w ws kind (strike s e ew legal leading r) =
        let month : m ≡ s.month = omega arith in
        let f =
        strike_test h w s.strike s.on_ground s.put s.call (strike_legal now s legal) ew
        (after_same m h s leading month) in
        (f.0, rw (f.1, month) r)
    strike_from_lem h w ws kind (expiration s vs other ew es legal leading r) =
        absurd (omega (
          arith,
          kind,
          kind_packed (Expiration s.month) w
              (fits (Expiration s.month) (month_legal now s legal)) ew,
        ))

    strike_to :
        (h w : ℕ) (ws : List ℕ) → T (is_strike_above h w) → Words (suc m) (is_after m (key_of strike_kind w)) ws
        → Words (suc m) (is_after m h) (w ∷ ws)
    strike_to h w ws t r =
        let s = series_in m w in
        let word = strike_packed h w t in
        let l : T (is_legal (strike_word s)) = word.1 in
        let legal : T (is_series now s) = search (ands, and_intro) depth 12 in
        let above : h < key_of strike_kind w = ltb→lt h (key_of strike_kind w) (search ands) in
        rw word.0 at (add_strike {test = is_after m h} s legal (above_after h s above) r)

    -- where no strike above the last one stands, only another expiration or a class may follow
    strike_none :
        (h w : ℕ) (ws : List ℕ) → is_strike_above h w ≡ false
        → Words (suc m) (is_after m h) (w ∷ ws) ↔ Words (suc m) (may_follow (suc m)) (w ∷ ws)
    strike_none h w ws t = (λ r. from (first r), to)
      where
        from : First (suc m) (is_after m h) w ws → Words (suc m) (may_follow (suc m)) (w ∷ ws)
        from (class k e) = no_series e
        from (strike s e ew legal leading r) =
            let month : m ≡ s.month = omega arith in
            absurd (rw t at (strike_test h w s.strike s.on_ground s.put s.call (strike_legal now s legal) ew
            (after_same m h s leading month)).0)
        from (expiration s vs other ew es legal leading r) =
            let later = after_other m h s leading other in
            rw (ew, es) at (add_expiration {test = may_follow (suc m)} (suc m) s other legal later r)

        leading : (ss : List Series) → T (leads (may_follow (suc m)) ss) → T (leads (is_after m h) ss)
        leading [] t = tt
        leading (s ∷ ss) t = from_after m h s t

        to : Words (suc m) (may_follow (suc m)) (w ∷ ws) → Words (suc m) (is_after m h) (w ∷ ws)
        to r =
            record {
              series = r.series;
              words = r.words;
              legal = r.legal;
              rising = r.rising;
              leading = leading r.series r.leading;
            }

    -- the next strikes after a strike
    strikes :
        (before : ℕ) (ws : List ℕ) → IsStrike before → key_of strike_kind before ≤ highest_strike
        → Words (suc m) (is_after m (key_of strike_kind before)) ws
        ↔ ((key_of strike_kind (last_next before ws) ≤ highest_strike)
        × Words (suc m) (may_follow (suc m)) (drop (next_length before ws) ws))
    strikes before [] prior low = (λ r. (low, no_series (series_end r)), λ r. no_series (series_end r.1))
    strikes before (w ∷ ws) prior low = go (is_next_strike before w) refl (strikes w ws)
      where
        h : ℕ
        h = key_of strike_kind before

        n : ℕ
        n = next_length w ws

        go :
            (next : Bool) → is_next_strike before w ≡ next
            → (IsStrike w → key_of strike_kind w ≤ highest_strike
            → Words (suc m) (is_after m (key_of strike_kind w)) ws
            ↔ ((key_of strike_kind (last_next w ws) ≤ highest_strike) × Words (suc m) (may_follow (suc m)) (drop n ws)))
            → Words (suc m) (is_after m h) (w ∷ ws)
            ↔ ((key_of strike_kind (get_or (before ∷ w ∷ ws) (cond {A = ℕ} next (suc n) 0) 0) ≤ highest_strike)
            × Words (suc m) (may_follow (suc m)) (drop (cond {A = ℕ} next (suc n) 0) (w ∷ ws)))
        go true e rest =
            let t = true_T (is_next_strike before w) e in
            let word = next_strike before w t prior in
            let top = bare strike_kind (end call_field) w (search ands) in
            let kind : kind_of w ≡ strike_kind.number = omega arith in (
              λ r.
                  let next = strike_from_lem h w ws kind (first r) in
                  let above : T (is_strike_above h w) = next.0 in
                  (rest top (leb→le (key_of strike_kind w) highest_strike (search ands))).0 next.1,
              λ r.
                  let few : key_of strike_kind w ≤ highest_strike = omega (arith, next_rising w ws top, r.0) in
                  strike_to h w ws (next_above w word h (next_rises before w t prior) few) ((rest top few).1 r),
            )
        go false e rest =
            let none = strike_none h w ws (above_none before h w (omega (arith, strike_order before prior)) e) in
            (λ r. (low, none.0 r), λ r. none.1 r.1)

  -- ---- expirations

  -- an expiration word has a month from p on, and strikes
  expiration_from :
      {p w : ℕ} {ws : List ℕ} → kind_of w ≡ expiration_kind.number → First p (may_follow p) w ws
      → T (is_expiration_from now p w)
      × HasStrikes w ws
      × Words (suc (below_kind w)) (may_follow (suc (below_kind w))) (drop (next_length w ws) ws)
  expiration_from kind (class k e) = absurd (omega arith)
  expiration_from {p} {w} kind (strike s e ew legal leading r) =
      absurd (omega (arith, kind_packed (strike_word s) w (fits (strike_word s) (strike_legal now s legal)) ew))
  expiration_from {p} {w} kind (expiration s vs other ew es legal leading r) =
      let v = packed (strike_word s) in
      let month : below_kind w ≡ s.month = expiration_field w s.month (month_legal now s legal) ew in
      let listed : T (is_listed now s.month) = search ands depth 12 in
      let test =
      strike_test 0 v s.strike s.on_ground s.put s.call (strike_legal now s legal) refl
      (leb→le 1 s.strike (search ands)) in
      let above : T (is_strike_above 0 v) = test.0 in
      let next = above_next w 0 v (omega (arith, expiration_order w kind)) above in
      let top = bare strike_kind (end call_field) v (search ands) in
      let low : 0 < key_of strike_kind v = ltb→lt 0 (key_of strike_kind v) (search ands) in
      let first : T (is_first_strike v) =
      lt→ltb (order_of lowest_word) (order_of v) (omega (arith, strike_order v top)) in
      let few : key_of strike_kind v ≤ highest_strike = leb→le (key_of strike_kind v) highest_strike (search ands) in
      let rest = (strikes s.month listed v vs top few).0 (rw test.1 r) in
      let high = le→leb (key_of strike_kind (last_next v vs)) highest_strike rest.0 in
      rw (month, ← es, T_true (is_next_strike w v) next) (
        and_intro (leb p s.month) (is_listed now s.month) leading listed,
        (
          omega arith,
          search and_intro,
        ),
        rest.1,
      )

  expiration_to :
      {p w : ℕ} (ws : List ℕ) → kind_of w ≡ expiration_kind.number → T (is_expiration_from now p w) → HasStrikes w ws
      → Words (suc (below_kind w)) (may_follow (suc (below_kind w))) (drop (next_length w ws) ws)
      → Words p (may_follow p) (w ∷ ws)
  expiration_to [] kind t l r = absurd (omega arith)
  expiration_to {p} {w} (v ∷ vs) kind t l r = go (is_next_strike w v) refl l r
    where
      m : ℕ
      m = below_kind w

      n : ℕ
      n = next_length v vs

      go :
          (next : Bool) → is_next_strike w v ≡ next
          → (1 ≤ cond {A = ℕ} next (suc n) 0)
          × T (are_strikes v (get_or (w ∷ v ∷ vs) (cond {A = ℕ} next (suc n) 0) 0))
          → Words (suc m) (may_follow (suc m)) (drop (cond {A = ℕ} next (suc n) 0) (v ∷ vs))
          → Words p (may_follow p) (w ∷ v ∷ vs)
      go true e l r =
          let next = true_T (is_next_strike w v) e in
          let both : T (are_strikes v (last_next v vs)) = l.1 in
          let first : T (is_first_strike v) = search ands in
          let word = next_first w v next first in
          let top = bare strike_kind (end call_field) v (search ands) in
          let high : key_of strike_kind (last_next v vs) ≤ highest_strike =
          leb→le (key_of strike_kind (last_next v vs)) highest_strike (search ands) in
          let few : key_of strike_kind v ≤ highest_strike = omega (arith, next_rising v vs top) in
          let low = ltb→lt (order_of lowest_word) (order_of v) first in
          let above = next_above v word 0 (omega (arith, strike_order v top)) few in
          let s = series_in m v in
          let word = strike_packed 0 v above in
          let low : p ≤ m = leb→le p m (search ands) in
          let word_legal : T (is_legal (strike_word s)) = word.1 in
          let legal : T (is_series now s) = search (ands, and_intro) depth 12 in
          rw (expiration_packed w kind, word.0)
          at (add_expiration {test = may_follow p} p s (λ q. omega arith) legal (search ands)
          ((strikes m (search ands) v vs top few).1 (high, r)))
      go false e l r = absurd (omega arith)

  -- an expiration word, and its strikes
  pub expiration_more :
      {p w : ℕ} {ws : List ℕ} → kind_of w ≡ expiration_kind.number
      → SeriesThen now p (may_follow p) xs (w ∷ ws)
      ↔ (T (is_expiration_from now p w)
      × HasStrikes w ws
      × SeriesThen now (suc (below_kind w)) (may_follow (suc (below_kind w))) xs (drop (next_length w ws) ws))
  expiration_more {p} {w} {ws} kind =
      (λ r. expiration_from kind (first r), λ e. expiration_to ws kind e.0 e.1 e.2)

  -- where no expiration word stands, only a class may follow
  class_next :
      {p w : ℕ} {ws : List ℕ} → (kind_of w ≡ expiration_kind.number → ⊥) → First p (may_follow p) w ws
      → map packed last ≡ w ∷ ws
  class_next other (class k e) = e
  class_next {p} other (strike s e ew legal leading r) = absurd (omega (arith, leb→le p s.month leading))
  class_next {p} {w} other (expiration s vs q ew es legal leading r) =
      absurd (other (kind_packed (Expiration s.month) w (fits (Expiration s.month) (month_legal now s legal)) ew))

  pub expiration_none :
      {p w : ℕ} {ws : List ℕ} → (kind_of w ≡ expiration_kind.number → ⊥)
      → SeriesThen now p (may_follow p) xs (w ∷ ws) ↔ (map packed (classes_words xs []) ≡ w ∷ ws)
  expiration_none other = (λ r. class_next other (first r), no_series)
