-- One step of the review over the words of a class: the highest strike of those below goes up or goes, and where it is
-- the lowest of its expiration the expiration word too. On the words' parts. Assumes nothing.
use Prim.Native.Nat.{ℕ, zero, suc, ◌+◌, ◌-◌, ◌≤◌, ◌<◌}
use mathlib.Core.Path.{◌≡◌, refl, sym, ap, ◌∙◌}
use mathlib.Core.Bool.{Bool, true, false, cond, not}
use mathlib.Core.List.{List, [], ◌∷◌, ◌++◌, map, append_assoc, append-nil, reverse}
use native.Mathlib.Nat.{le_refl}
use native.Mathlib.Omega.{arith}
use lib.Dec.{T, eqb, ltb}
use lib.ListN.{length, get_or, take, replicate, length-append, length-replicate}
use lib.Seq.{get_or_at, take_at}
use borrow.Author.Tests.{eqb-true, eqb-false, eq-eqb, lt-ltb, le-ltb}
use Rattle.logic.specs.Lists.{only}
use Rattle.logic.proofs.Tests.{ands}
use Rattle.logic.proofs.Lists.{length_only}
use Rattle.word.specs.Field.{field}
use Rattle.word.specs.Kinds.{key_of, strike_kind, ground_field, put_field, call_field}
use Rattle.word.specs.Codec.{Expiration, packed}
use Rattle.word.proofs.Words.{strike_fields}
use Rattle.word.proofs.RawWords.{fits}
use Rattle.book.specs.Facts.{Series, OpenClass}
use Rattle.book.specs.Layout.{strike_word, series_words}
use Rattle.book.specs.Books.{is_class}
use Rattle.book.specs.Views.{is_reviewed}
use Rattle.book.proofs.LegalWords.{strike_legal}
use Rattle.review.specs.declared.marks.Bounds.{Bounds}
use Rattle.review.specs.declared.marks.LastStrikes.{LastStrikes}
use Rattle.review.specs.declared.steps.ReviewState.{ReviewState}
use Rattle.review.specs.ReviewSteps.{words_of_series}
use Rattle.review.specs.Marks.{none_marked, bounds_in, strikes_in, EndsWith, near_strikes, stays, standing, count_of, bounds_of}
use Rattle.review.specs.StepStates.{lifted_to, lifted}
use Rattle.review.proofs.PlacedSeries.{AllPlaced, placed, placed_after, placed_only, placed_parts, count_later, count_earlier, count_last, count_joined, words_behind, words_more, standing_last, expiration_of, words_last, behind_strike, behind_month}
use Rattle.review.proofs.LastSeries.{count_is, bounds_are}
use Rattle.review.proofs.Reviewed.{agrees}
use Rattle.review.proofs.Lifts.{lift_parts}

-- of series of the class x, those that its review leaves, and those that it removes
abbrev pub left : OpenClass → List Series → List Series
left x ss = only (λ s. not (is_reviewed x s)) ss

abbrev pub gone : OpenClass → List Series → List Series
gone x ss = only (is_reviewed x) ss

-- the series `high` of the class are reviewed, and those below them, `low`, are not
pub record At (x : OpenClass) (low high : List Series) (ws : List ℕ) (k : ReviewState) : Type 0 where
  pub words : ws ≡ words_of_series low ++ (replicate (k.written - k.read) 0 ++ words_behind low (left x high))
  pub read : k.read ≡ length (words_of_series low)
  pub total : k.written + length (words_behind low (left x high)) ≡ length (words_of_series x.series)
  pub free : k.written ≡ k.read + (length (gone x high) + k.emptied)
  pub first : k.last.first + count_of (standing 0 low) low ≡ k.read
  pub bounds : k.last.bounds ≡ bounds_of x.series (standing 0 low)
  pub top : k.top ≡ k.written + count_of (standing 0 low) (left x high)

-- all words of the class have their place
at_length :
    (x : OpenClass) (low high : List Series) (ws : List ℕ) (k : ReviewState) → At x low high ws k
    → k.written + length (words_behind low (left x high)) ≡ length ws
at_length x low high ws k A =
    let behind = words_behind low (left x high) in
    let gap = k.written - k.read in
    omega (
      arith,
      A.read,
      A.free,
      ap length A.words,
      length-append (words_of_series low) (replicate gap 0 ++ behind),
      length-append (replicate gap 0) behind,
      length-replicate {A = ℕ} gap 0,
    )

-- the numbers that a step over n words reckons with
pub record Within (n : ℕ) (k : ReviewState) : Type 0 where
  pub before : 0 < k.last.first
  pub below : k.last.first < k.read
  pub free : k.read + k.emptied ≤ k.written
  pub inside : k.written ≤ n

abbrev pub state : (read written : ℕ) → LastStrikes → (top emptied : ℕ) → ReviewState
state read written last top emptied =
    record { read = read; written = written; last = last; top = top; emptied = emptied }

pub one_or_none : (b : Bool) → cond {A = ℕ} b 1 0 ≤ 1
one_or_none true = omega arith
one_or_none false = omega arith

regroup : (a b c : List ℕ) (v : ℕ) → (a ++ (b ++ (v ∷ []))) ++ c ≡ (a ++ b) ++ (v ∷ c)
regroup a b c v = simp append_assoc

more_than : (a n : ℕ) → ltb a (a + n) ≡ ltb 0 n
more_than a zero = le-ltb a (a + 0) (omega arith)
more_than a (suc n) = lt-ltb a (a + suc n) (omega arith) ∙ sym (lt-ltb 0 (suc n) (omega arith))

module _
    (now : ℕ) (x : OpenClass) (t : T (is_class now x)) (low : List Series) (s : Series) (high : List Series)
    (is : x.series ≡ low ++ (s ∷ high)) (ws : List ℕ) (k : ReviewState) (A : At x (low ++ (s ∷ [])) high ws k) where
  abbrev m : ℕ
  m = s.month

  -- whether the expiration of s has strikes below it
  abbrev stood : Bool
  stood = eqb (standing 0 low) (suc m)

  abbrev gap : ℕ
  gap = k.written - k.read

  abbrev word : ℕ
  word = packed (strike_word s)

  abbrev prefix : Bool → List ℕ
  prefix b = words_of_series low ++ expiration_of b s

  abbrev behind : List ℕ
  behind = map packed (series_words (suc m) (left x high) [])

  parts : AllPlaced now 0 low × AllPlaced now (standing 0 low) (s ∷ high)
  parts = placed_parts now 0 low (s ∷ high) (rw is at (placed now x.series (search ands)))

  stands : standing 0 (low ++ (s ∷ [])) ≡ suc m
  stands = standing_last 0 low s

  was : ws ≡ prefix stood ++ (word ∷ (replicate gap 0 ++ behind))
  was =
      A.words
      ∙ (λ i. words_last low s i ++ (replicate gap 0 ++ map packed (series_words (stands i) (left x high) [])))
      ∙ regroup (words_of_series low) (expiration_of stood s) (replicate gap 0 ++ behind) word

  place : length (prefix stood) + 1 ≡ k.read
  place =
      let e = expiration_of stood s in
      omega (
        arith,
        A.read,
        ap length (words_last low s),
        length-append (words_of_series low) (e ++ (word ∷ [])),
        length-append e (word ∷ []),
        length-append (words_of_series low) e,
      )

  -- the strikes of the expiration below this one
  count : k.last.first + count_of (suc m) low + 1 ≡ k.read
  count =
      omega (
        arith,
        A.first,
        ap (λ (p : ℕ). count_of p (low ++ (s ∷ []))) stands ∙ count_joined (suc m) low (s ∷ []),
        ap (λ (b : Bool). length (cond b (s ∷ []) [])) (eq-eqb (suc m) (suc m) refl),
      )

  pub within : Within (length ws) k
  within =
      let ss = low ++ (s ∷ []) in
      let some : 0 < length ss = omega (arith, length-append low (s ∷ [])) in
      record {
        before =
            omega (
              arith,
              A.read,
              A.first,
              words_more ss some,
              length_only (λ t. eqb (suc t.month) (standing 0 ss)) ss,
            );
        below = omega (arith, count);
        free = omega (arith, A.free);
        inside = omega (arith, at_length x ss high ws k A);
      }

  early : stood ≡ false → standing 0 low ≤ m
  early e =
      let o = parts.1.0.order in
      let n = eqb-false (standing 0 low) (suc m) e in
      omega (arith, n)

  -- the lowest of an expiration has its word before it
  low_length : stood ≡ false → length (words_of_series low) + 2 ≡ k.read
  low_length e =
      omega (
        arith,
        place,
        ap (λ (c : Bool). length (prefix c)) e,
        length-append (words_of_series low) (packed (Expiration m) ∷ []),
      )

  -- it is the lowest exactly where the code says so
  pub lowest_is : k.read - 1 ≡ k.last.first → stood ≡ false
  lowest_is e = go stood refl
    where
      go : (b : Bool) → stood ≡ b → b ≡ false
      go true q =
          let some = count_last now m 0 low (λ z. omega arith) (eqb-true (standing 0 low) (suc m) q) in
          absurd (omega (arith, count))
      go false q = refl

  pub inside_is : (k.read - 1 ≡ k.last.first → ⊥) → stood ≡ true
  inside_is n = go stood refl
    where
      go : (b : Bool) → stood ≡ b → b ≡ true
      go true q = refl
      go false q = absurd (n (omega (arith, count, count_earlier now m 0 low parts.0 (early q))))

  -- ---- the strike

  module _
      (near : Bounds) (price : near ≡ near_strikes x.figures.close) (b : Bool)
      (eb : let w = get_or ws (k.read - 1) 0 in
      b
      ≡ stays near k.last.bounds (key_of strike_kind w) (field w ground_field) (field w put_field)
      (field w call_field)) where
    judged : b ≡ not (is_reviewed x s)
    judged =
        let u = parts.1.0.limits in
        let here : get_or ws (k.read - 1) 0 ≡ word =
        ap (λ (l : List ℕ). get_or l (k.read - 1) 0) was
        ∙ get_or_at (prefix stood) word (replicate gap 0 ++ behind) 0 (k.read - 1) (omega (arith, place)) in
        let bounds : k.last.bounds ≡ bounds_of x.series (suc m) = A.bounds ∙ ap (bounds_of x.series) stands in
        let f = strike_fields word s.strike s.on_ground s.put s.call
        (fits (strike_word s) (strike_legal now s u)) refl in
        eb
        ∙ (λ i.
        stays (price i) (bounds i) (key_of strike_kind (here i)) (field (here i) ground_field)
        (field (here i) put_field) (field (here i) call_field))
        ∙ (λ i.
        stays (near_strikes x.figures.close) (bounds_of x.series (suc m)) (f.0 i) (f.1 i) (f.2 i) (f.3 i))
        ∙ agrees now x s u

    -- what stays with it
    abbrev kept : List Series
    kept = left x (s ∷ high)

    kept_is : kept ≡ cond b (s ∷ left x high) (left x high)
    kept_is = ap (λ (c : Bool). cond c (s ∷ left x high) (left x high)) (sym judged)

    abbrev behind' : List ℕ
    behind' = map packed (series_words (suc m) kept [])

    behind_is : behind' ≡ cond b (word ∷ behind) behind
    behind_is =
        ap (λ (ss : List Series). map packed (series_words (suc m) ss [])) kept_is ∙ behind_strike s b (left x high)

    one_more : {A : Type 0} (c : Bool) (a : A) (l : List A) → length (cond c (a ∷ l) l) ≡ length l + cond {A = ℕ} c 1 0
    one_more true a l = omega arith
    one_more false a l = omega arith

    longer : length behind' ≡ length behind + cond {A = ℕ} b 1 0
    longer = ap length behind_is ∙ one_more b word behind

    more_kept : count_of (suc m) kept ≡ count_of (suc m) (left x high) + cond {A = ℕ} b 1 0
    more_kept = ap (count_of (suc m)) kept_is ∙ go b
      where
        go :
            (c : Bool)
            → count_of (suc m) (cond c (s ∷ left x high) (left x high))
            ≡ count_of (suc m) (left x high) + cond {A = ℕ} c 1 0
        go true = rw (eq-eqb (suc m) (suc m) refl) (omega arith)
        go false = omega arith

    more_gone : length (gone x (s ∷ high)) + cond {A = ℕ} b 1 0 ≡ length (gone x high) + 1
    more_gone = ap (λ (c : Bool). length (gone x (s ∷ high)) + cond {A = ℕ} c 1 0) judged ∙ go (is_reviewed x s)
      where
        go :
            (r : Bool)
            → length (cond r (s ∷ gone x high) (gone x high)) + cond {A = ℕ} (not r) 1 0 ≡ length (gone x high) + 1
        go true = omega arith
        go false = omega arith

    -- where what stays begins then
    abbrev written : ℕ
    written = lifted_to k.written b

    abbrev gap' : ℕ
    gap' = written - (k.read - 1)

    gap_is : cond {A = ℕ} b gap (suc gap) ≡ gap'
    gap_is = go b
      where
        go : (c : Bool) → cond {A = ℕ} c gap (suc gap) ≡ k.written - cond {A = ℕ} c 1 0 - (k.read - 1)
        go true = omega (arith, within)
        go false = omega (arith, within)

    -- the words then
    abbrev once : List ℕ
    once = lifted (k.read - 1) k.written b ws

    once_is : once ≡ prefix stood ++ (replicate gap' 0 ++ behind')
    once_is =
        ap (lifted (k.read - 1) k.written b) was
        ∙ lift_parts (prefix stood) behind word gap (k.read - 1) k.written b (omega (arith, place))
        (omega (arith, within))
        ∙ (λ i. prefix stood ++ (replicate (gap_is i) 0 ++ sym behind_is i))

    total : written + length behind' ≡ length (words_of_series x.series)
    total =
        let w : k.written + length behind ≡ length (words_of_series x.series) =
        ap (λ (p : ℕ). k.written + length (map packed (series_words p (left x high) []))) (sym stands) ∙ A.total in
        omega (arith, longer, within, one_or_none b)

    free : written ≡ k.read - 1 + (length (gone x (s ∷ high)) + k.emptied)
    free = omega (arith, A.free, more_gone, within, one_or_none b)

    top : k.top ≡ written + count_of (suc m) kept
    top =
        let t : k.top ≡ k.written + count_of (suc m) (left x high) =
        A.top ∙ ap (λ (p : ℕ). k.written + count_of p (left x high)) stands in
        omega (arith, more_kept, within, one_or_none b)

    written_within : (k.read - 1 ≤ written) × (written ≤ length ws)
    written_within = omega (arith, free, within)

    -- ---- its expiration goes on

    pub step_inside :
        stood ≡ true → At x low (s ∷ high) once (state (k.read - 1) written k.last k.top k.emptied)
    step_inside e =
        let q : suc m ≡ standing 0 low = sym (eqb-true (standing 0 low) (suc m) e) in
        let front : prefix stood ≡ words_of_series low = ap prefix e ∙ append-nil (words_of_series low) in
        record {
          words = once_is ∙ (λ i. front i ++ (replicate gap' 0 ++ map packed (series_words (q i) kept [])));
          read = omega (arith, place, ap length front);
          total = ap (λ (p : ℕ). written + length (map packed (series_words p kept []))) (sym q) ∙ total;
          free = free;
          first = omega (arith, ap (λ (p : ℕ). count_of p low) q, count);
          bounds = A.bounds ∙ ap (bounds_of x.series) (stands ∙ q);
          top = top ∙ ap (λ (p : ℕ). written + count_of p kept) q;
        }

    -- ---- it is the lowest of it

    module _ (e : stood ≡ false) where
      abbrev start : ℕ
      start = k.read - 1 - 1

      -- whether a strike of the expiration stays
      abbrev stays_on : Bool
      stays_on = ltb written k.top

      abbrev month_word : ℕ
      month_word = packed (Expiration m)

      abbrev after : List ℕ
      after = lifted start written stays_on once

      abbrev high_words : List ℕ
      high_words = words_behind low kept

      again : AllPlaced now (suc m) (s ∷ high)
      again = (placed_after now (suc m) (le_refl (suc m)) parts.1.0, parts.1.1)

      kept_placed : AllPlaced now (suc m) kept
      kept_placed = placed_only now (λ r. not (is_reviewed x r)) (suc m) (s ∷ high) again

      stays_is : stays_on ≡ ltb 0 (count_of (suc m) kept)
      stays_is = ap (ltb written) top ∙ more_than written (count_of (suc m) kept)

      high_is : high_words ≡ cond stays_on (month_word ∷ behind') behind'
      high_is =
          behind_month now (standing 0 low) m kept (early e) kept_placed
          ∙ ap (λ (c : Bool). cond c (month_word ∷ behind') behind') (sym stays_is)

      start_is : length (words_of_series low) ≡ start
      start_is = omega (arith, low_length e)

      all_is : cond {A = ℕ} stays_on gap' (suc gap') ≡ lifted_to written stays_on - start
      all_is = go stays_on
        where
          go : (c : Bool) → cond {A = ℕ} c gap' (suc gap') ≡ written - cond {A = ℕ} c 1 0 - start
          go true = omega (arith, low_length e, written_within)
          go false = omega (arith, low_length e, written_within)

      after_is : after ≡ words_of_series low ++ (replicate (lifted_to written stays_on - start) 0 ++ high_words)
      after_is =
          ap (lifted start written stays_on)
          (once_is
          ∙ ap (λ (c : Bool). prefix c ++ (replicate gap' 0 ++ behind')) e
          ∙ append_assoc (words_of_series low) (month_word ∷ []) (replicate gap' 0 ++ behind'))
          ∙ lift_parts (words_of_series low) behind' month_word gap' start written stays_on start_is
          (omega (arith, low_length e, written_within))
          ∙ (λ i. words_of_series low ++ (replicate (all_is i) 0 ++ sym high_is i))

      seen : take start after ≡ words_of_series low
      seen =
          ap (take start) after_is
          ∙ take_at (words_of_series low)
          (replicate (lifted_to written stays_on - start) 0 ++ high_words) start start_is

      pub step_lowest :
          (next : LastStrikes) → EndsWith (take start after) next → (emptied : ℕ)
          → emptied ≡ k.emptied + cond {A = ℕ} stays_on 0 1
          → At x low (s ∷ high) after
          (state start (lifted_to written stays_on) next (lifted_to written stays_on) emptied)
      step_lowest next M emptied counted =
          let long : length (take start after) ≡ length (words_of_series low) = ap length seen in
          record {
            words = after_is;
            read = sym start_is;
            total = all_total stays_on (ap length high_is);
            free = all_free stays_on counted;
            first =
                omega (
                  arith,
                  M.first,
                  ap (λ (l : List ℕ). strikes_in (reverse l)) seen ∙ count_is now low parts.0,
                  start_is,
                );
            bounds =
                M.bounds
                ∙ ap (λ (l : List ℕ). bounds_in none_marked (reverse l)) seen
                ∙ bounds_are now low (s ∷ high) (suc m) parts.0 (omega (arith, early e)) again
                ∙ ap (λ (l : List Series). bounds_of l (standing 0 low)) (sym is);
            top = omega (arith, count_later now (standing 0 low) (suc m) kept (omega (arith, early e)) kept_placed);
          }
        where
          all_total :
              (c : Bool) → length high_words ≡ length (cond c (month_word ∷ behind') behind')
              → written - cond {A = ℕ} c 1 0 + length high_words ≡ length (words_of_series x.series)
          all_total true h = omega (arith, total, low_length e, written_within)
          all_total false h = omega (arith, total)

          all_free :
              (c : Bool) → emptied ≡ k.emptied + cond {A = ℕ} c 0 1
              → written - cond {A = ℕ} c 1 0 ≡ start + (length (gone x (s ∷ high)) + emptied)
          all_free true h = omega (arith, free, low_length e)
          all_free false h = omega (arith, free, low_length e)
