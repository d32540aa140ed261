-- The review in steps that are counted: what is reached after n of them, said of the last n series of the class; none
-- yet, one more, and all of them. By the law of one step. Assumes nothing.
use Prim.Native.Nat.{ℕ, zero, suc, ◌+◌, ◌-◌, ◌≤◌, ◌<◌}
use mathlib.Core.Path.{◌≡◌, refl, sym, ap, ◌∙◌, subst}
use mathlib.Core.Bool.{Bool, cond}
use mathlib.Core.List.{List, [], ◌∷◌, ◌++◌, append-nil, reverse}
use mathlib.Core.Logic.{◌⊎◌, inl, inr}
use native.Mathlib.Numerals.{add-one}
use native.Mathlib.Omega.{arith}
use lib.Dec.{T, ltb}
use lib.ListN.{length, get_or, take, drop, replicate, length-take, length-append}
use lib.Seq.{take-suc, drop-cons, drop_at, split_at, take-length, drop-length}
use Rattle.word.specs.Limits.{highest_price}
use Rattle.word.specs.Field.{field}
use Rattle.word.proofs.RangeTests.{day_prices}
use Rattle.word.specs.Kinds.{key_of, strike_kind, ground_field, put_field, call_field}
use Rattle.book.specs.Facts.{Series, OpenClass}
use Rattle.logic.proofs.Tests.{ands, lt_or_le}
use Rattle.book.specs.Books.{is_class}
use Rattle.review.specs.declared.marks.Bounds.{Bounds}
use Rattle.review.specs.declared.marks.LastStrikes.{LastStrikes}
use Rattle.review.specs.declared.steps.ReviewState.{ReviewState}
use Rattle.review.specs.ReviewSteps.{after_steps, words_of_series, words_after}
use Rattle.review.specs.Marks.{none_marked, bounds_in, strikes_in, EndsWith, near_strikes, stays, standing, count_of, bounds_of}
use Rattle.review.specs.StepStates.{Reached, lifted_to, lifted}
use Rattle.review.specs.ReviewsAsked.{Steppable, Stepping}
use Rattle.review.proofs.PlacedSeries.{placed, words_behind, words_joined, words_many}
use Rattle.review.proofs.LastSeries.{count_is, bounds_are}
use Rattle.review.proofs.StepTaken.{left, gone, At, Within, state, within, lowest_is, inside_is, step_inside, step_lowest}
use Rattle.review.proofs.HighestSeries.{low, high, below_is, after_is, gone_is, stayed_is}

-- ---- what is reached, said of the last n series

module _ (now : ℕ) (x : OpenClass) (t : T (is_class now x)) (n : ℕ) (ws : List ℕ) (k : ReviewState) where
  abbrev pub lowest : List Series
  lowest = low now x t n

  abbrev pub highest : List Series
  highest = high now x t n

  abbrev pub behind : List ℕ
  behind = words_behind lowest (left x highest)

  -- the words of the class as it is then
  pub all_is : words_of_series (after_steps n x).series ≡ words_of_series lowest ++ behind
  all_is = ap words_of_series (after_is now x t n) ∙ words_joined lowest (left x highest)

  all_length : length (words_of_series (after_steps n x).series) ≡ length (words_of_series lowest) + length behind
  all_length = ap length all_is ∙ length-append (words_of_series lowest) behind

  -- how many words are free
  abbrev freed : ℕ
  freed = length (words_of_series x.series) - length (words_of_series (after_steps n x).series)

  words_are : words_after n x ≡ words_of_series lowest ++ (replicate freed 0 ++ behind)
  unfolding words_after
  words_are =
      let first = ap words_of_series (below_is now x t n) in
      (λ i. first i ++ (replicate freed 0 ++ drop (length (first i)) (all_is i)))
      ∙ ap (λ (l : List ℕ). words_of_series lowest ++ (replicate freed 0 ++ l))
      (drop_at (words_of_series lowest) behind (length (words_of_series lowest)) refl)

  pub reached_at : Reached n x ws k → At x lowest highest ws k
  reached_at R =
      let b = below_is now x t n in
      let read : k.read ≡ length (words_of_series lowest) =
      R.read ∙ ap (λ (l : List Series). length (words_of_series l)) b in
      let free : k.written ≡ k.read + (length (gone x highest) + k.emptied) =
      R.free ∙ ap (λ (l : List Series). k.read + (length l + k.emptied)) (gone_is now x t n) in
      let gap : freed ≡ k.written - k.read = omega (arith, R.written) in
      record {
        words =
            R.words ∙ words_are ∙ ap (λ (j : ℕ). words_of_series lowest ++ (replicate j 0 ++ behind)) gap;
        read = read;
        total = omega (arith, R.written, all_length);
        free = free;
        first = (λ i. k.last.first + count_of (standing 0 (sym b i)) (sym b i)) ∙ R.first;
        bounds = R.bounds ∙ ap (λ (l : List Series). bounds_of x.series (standing 0 l)) b;
        top = R.top ∙ (λ i. k.written + count_of (standing 0 (b i)) (stayed_is now x t n i));
      }

  pub at_reached : At x lowest highest ws k → Reached n x ws k
  at_reached A =
      let b = sym (below_is now x t n) in
      let written : k.written + length (words_of_series (after_steps n x).series)
      ≡ k.read + length (words_of_series x.series) = omega (arith, A.read, A.total, all_length) in
      let gap : k.written - k.read ≡ freed = omega (arith, A.free) in
      record {
        words =
            A.words
            ∙ ap (λ (j : ℕ). words_of_series lowest ++ (replicate j 0 ++ behind)) gap
            ∙ sym words_are;
        read = A.read ∙ ap (λ (l : List Series). length (words_of_series l)) b;
        written = written;
        free = A.free ∙ ap (λ (l : List Series). k.read + (length l + k.emptied)) (sym (gone_is now x t n));
        first = (λ i. k.last.first + count_of (standing 0 (sym b i)) (sym b i)) ∙ A.first;
        bounds = A.bounds ∙ ap (λ (l : List Series). bounds_of x.series (standing 0 l)) b;
        top = A.top ∙ (λ i. k.written + count_of (standing 0 (b i)) (sym (stayed_is now x t n) i));
      }

-- ---- one step

none : Series
none = record { month = 0; strike = 0; on_ground = 0; put = 0; call = 0 }

module _ {near : Bounds} {ws : List ℕ} {k : ReviewState} (X : Stepping near ws k) where
  abbrev x : OpenClass
  x = X.class

  -- the index of the strike that comes next
  abbrev index : ℕ
  index = length x.series - suc X.steps

  abbrev lower : List Series
  lower = take index x.series

  abbrev next : Series
  next = get_or x.series index none

  abbrev higher : List Series
  higher = drop (suc index) x.series

  series_is : x.series ≡ lower ++ (next ∷ higher)
  series_is = let l = X.more in split_at x.series index none (omega arith)

  before : At x (lower ++ (next ∷ [])) higher ws k
  before =
      let l = X.more in
      let e : length x.series - X.steps ≡ suc index = omega arith in
      subst (λ (ss : List Series). At x ss higher ws k) (take-suc x.series index none (omega arith))
      (subst (λ (i : ℕ). At x (take i x.series) (drop i x.series) ws k) e
      (reached_at X.month x X.limits X.steps ws k X.reached))

  after : {ws' : List ℕ} {k' : ReviewState} → At x lower (next ∷ higher) ws' k' → Reached (suc X.steps) x ws' k'
  after {ws'} {k'} a =
      let l = X.more in
      at_reached X.month x X.limits (suc X.steps) ws' k'
      (subst (λ (ss : List Series). At x lower ss ws' k') (sym (drop-cons x.series index none (omega arith))) a)

  pub step_within : Within (length ws) k
  step_within = within X.month x X.limits lower next higher series_is ws k before

  -- by what the code's parts give
  module _
      (b : Bool)
      (eb : let w = get_or ws (k.read - 1) 0 in
      b
      ≡ stays near k.last.bounds (key_of strike_kind w) (field w ground_field) (field w put_field)
      (field w call_field))
      (written : ℕ) (ew : written ≡ lifted_to k.written b)
      (once : List ℕ) (eo : once ≡ lifted (k.read - 1) k.written b ws) where
    pub stepped_inside :
        (k.read - 1 ≡ k.last.first → ⊥)
        → Reached (suc X.steps) x once (state (k.read - 1) written k.last k.top k.emptied)
    stepped_inside n =
        let s = inside_is X.month x X.limits lower next higher series_is ws k before n in
        rw (ew, eo)
        (after (step_inside X.month x X.limits lower next higher series_is ws k before near X.close b eb s))

    pub stepped_lowest :
        k.read - 1 ≡ k.last.first → (all : ℕ) → all ≡ lifted_to written (ltb written k.top) → (ws' : List ℕ)
        → ws' ≡ lifted (k.read - 1 - 1) written (ltb written k.top) once → (last : LastStrikes)
        → EndsWith (take (k.read - 1 - 1) ws') last → (emptied : ℕ)
        → emptied ≡ k.emptied + cond {A = ℕ} (ltb written k.top) 0 1
        → Reached (suc X.steps) x ws' (state (k.read - 1 - 1) all last all emptied)
    stepped_lowest e all ea ws' e' last M emptied ee =
        let s = lowest_is X.month x X.limits lower next higher series_is ws k before e in
        rw (e', ea, ew, eo)
        (after
        (step_lowest X.month x X.limits lower next higher series_is ws k before near X.close b eb s last
        (rw (e', ew, eo) at M) emptied (rw ew at ee)))

-- ---- all steps: the loop's invariant

-- of the words ws₀ i steps of at most n have made ws
pub record Going (price n : ℕ) (ws₀ ws : List ℕ) (k : ReviewState) (i : ℕ) : Type 0 where
  pub long : length ws ≡ length ws₀
  pub most : i ≤ n
  pub reached : (X : Steppable price ws₀) → Reached i X.class ws k

-- the close is in its limits
pub close_limit : {price : ℕ} {ws : List ℕ} → Steppable price ws → price ≤ highest_price
close_limit X =
    let r = X.class.figures in
    let o = day_prices r.low r.close r.high (search ands) in
    omega (arith, X.close)

-- nothing is reviewed yet
module _ (price : ℕ) (ws : List ℕ) (last : LastStrikes) (M : EndsWith ws last) where
  abbrev begun : ReviewState
  begun = state (length ws) (length ws) last (length ws) 0

  begun_at : (X : Steppable price ws) → At X.class X.class.series [] ws begun
  begun_at X =
      let x = X.class in
      let ss = x.series in
      let p = placed X.month ss (search ands) in
      let e = X.words in
      let none : length ws - length ws ≡ 0 = omega arith in
      record {
        words =
            e ∙ sym (append-nil (words_of_series ss))
            ∙ ap (λ (j : ℕ). words_of_series ss ++ (replicate j 0 ++ [])) (sym none);
        read = ap length e;
        total = omega (arith, ap length e);
        free = omega arith;
        first = omega (arith, M.first, ap (λ (l : List ℕ). strikes_in (reverse l)) e ∙ count_is X.month ss p);
        bounds =
            M.bounds
            ∙ ap (λ (l : List ℕ). bounds_in none_marked (reverse l)) e
            ∙ bounds_are X.month ss [] (suc (standing 0 ss)) p (omega arith) tt
            ∙ ap (λ (l : List Series). bounds_of l (standing 0 ss)) (append-nil ss);
        top = omega arith;
      }

  pub going_start : (n : ℕ) → Going price n ws ws begun 0
  going_start n = record {
    long = refl;
    most = omega arith;
    reached = λ X.
        let x = X.class in
        let ss = x.series in
        let all : length ss ≡ length ss - 0 = omega arith in
        at_reached X.month x X.limits 0 ws begun
        (subst (λ (i : ℕ). At x (take i ss) (drop i ss) ws begun) all
        (subst (λ (low : List Series). At x low (drop (length ss) ss) ws begun) (sym (take-length ss))
        (subst (λ (high : List Series). At x ss high ws begun) (sym (drop-length ss)) (begun_at X))));
  }

-- words are left to be read exactly where strikes are left
module _ (now : ℕ) (x : OpenClass) (t : T (is_class now x)) (i : ℕ) (ws : List ℕ) (k : ReviewState)
    (R : Reached i x ws k) where
  read_is : k.read ≡ length (words_of_series (low now x t i))
  read_is = (reached_at now x t i ws k R).read

  strikes_left : 0 < k.read → i < length x.series
  strikes_left p = go (lt_or_le i (length x.series))
    where
      go : (i < length x.series) ⊎ (length x.series ≤ i) → i < length x.series
      go (inl l) = l
      go (inr l) =
          let z : length x.series - i ≡ 0 = omega arith in
          absurd
          (omega (arith, read_is ∙ ap (λ (j : ℕ). length (words_of_series (take j x.series))) z))

  none_left : k.read ≡ 0 → length x.series ≤ i
  none_left z =
      omega (
        arith,
        read_is,
        words_many (low now x t i),
        length-take (length x.series - i) x.series,
      )

module _ {price n : ℕ} {ws₀ ws : List ℕ} {k : ReviewState} {i : ℕ} (G : Going price n ws₀ ws k i) where
  pub going_asks : {near : Bounds} → near ≡ near_strikes price → Steppable price ws₀ → 0 < k.read → Stepping near ws k
  going_asks e X p = record {
    month = X.month;
    class = X.class;
    limits = X.limits;
    close = e ∙ ap near_strikes X.close;
    steps = i;
    more = strikes_left X.month X.class X.limits i ws k (G.reached X) p;
    reached = G.reached X;
    short = rw G.long X.short;
  }

  pub going_more :
      {near : Bounds} {ws' : List ℕ} {r : ReviewState} → near ≡ near_strikes price → i < n → 0 < k.read
      → length ws' ≡ length ws → ((Y : Stepping near ws k) → Reached (suc Y.steps) Y.class ws' r)
      → Going price n ws₀ ws' r (i + 1)
  unfolding going_asks
  going_more far l p e step = record {
    long = e ∙ G.long;
    most = omega arith;
    reached = λ X. rw (add-one i) (step (going_asks far X p));
  }

  pub going_done : (i < n → 0 < k.read → ⊥) → (X : Steppable price ws₀) → Reached n X.class ws k
  going_done stop X =
      let x = X.class in
      let R = G.reached X in
      at_reached X.month x X.limits n ws k
      (subst (λ (j : ℕ). At x (take j x.series) (drop j x.series) ws k) (same k.read refl)
      (reached_at X.month x X.limits i ws k R))
    where
      same : (r : ℕ) → k.read ≡ r → length X.class.series - i ≡ length X.class.series - n
      same zero e =
          omega (arith, none_left X.month X.class X.limits i ws k (G.reached X) e, G.most)
      same (suc r) e = let no_more : i < n → ⊥ = λ l. stop l (omega arith) in omega (arith, no_more, G.most)
