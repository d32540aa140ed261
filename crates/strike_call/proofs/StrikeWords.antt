-- The words of an expiration's strikes read as those that stand, which rise; and a judgement beside the words next to a
-- strike's place that are strikes is one beside all: by the strikes below and above it. Assumes nothing.
use Prim.Native.Nat.{ℕ, ◌+◌, ◌-◌, ◌≤◌, ◌<◌, min}
use mathlib.Core.Path.{◌≡◌, refl, sym, ap, ◌∙◌}
use mathlib.Core.Bool.{Bool, true, false, cond, ◌&&◌}
use mathlib.Core.List.{List, [], ◌++◌, map, map-map, map-append}
use native.Mathlib.Omega.{arith}
use lib.Dec.{T, ltb, ltb→lt}
use lib.ListN.{length, get_or, take, drop, length-append, length-map, get_or-append, get_or-map}
use lib.Seq.{get_or-append-add}
use borrow.Author.Tests.{ltb-true, ltb-false}
use Rattle.rule.specs.declared.terms.Setting.{Setting}
use Rattle.logic.specs.Lists.{Rising}
use Rattle.rule.specs.Spacing.{Standing, standing_of}
use Rattle.rule.specs.Judgement.{judgement}
use Rattle.rule.proofs.Near.{nearest_judged}
use Rattle.permitted.specs.Listing.{strike_in}
use Rattle.book.specs.Facts.{Series, is_class_open, is_at, in_month}
use Rattle.book.specs.Layout.{facts_of}
use Rattle.book.specs.Books.{is_book}
use Rattle.book.specs.Views.{class, view_of, is_standing, standing_in}
use Rattle.book.specs.Places.{has_expiration, strikes_place, strikes_end, strike_place}
use Rattle.book.proofs.Layouts.{book_facts}
use Rattle.logic.proofs.Lists.{every_at, every_mapped}
use Rattle.logic.proofs.Parts.{only_absent, only_both, every_kept, is_under, is_equal, is_over}
use Rattle.logic.proofs.Slices.{part_part}
use Rattle.book.proofs.ClassWords.{series_good}
use Rattle.book.proofs.SeriesParts.{month_of, strike_of, low, placed, high, strike_parts, strikes_rise}
use Rattle.book.proofs.Runs.{strikes_standing}
use Rattle.strike_call.proofs.Beside.{is_strike_at, strike_there, strike_below}

-- of the words from `from` to `to`, those from `start` to `stop` have the one before `at` and the one there
record LentPart (from at to start stop : ℕ) : Type 0 where
  begins : from ≤ start
  order : start ≤ stop
  ends : stop ≤ to
  below : start - from ≤ (at - from) - 1
  above : min (at + 1) to ≤ stop

lent_part : {from at to start stop : ℕ} → from ≤ at → at ≤ to → start ≡ cond {A = ℕ} (ltb from at) (at - 1) at →
    stop ≡ cond {A = ℕ} (ltb at to) (at + 1) at → LentPart from at to start stop
lent_part {from} {at} {to} {start} {stop} a b x y =
    let l = starts (ltb from at) refl x in
    let k = stops (ltb at to) refl y in
    record { begins = l.0; order = omega arith; ends = k.1.0; below = l.1.1; above = k.1.1 }
  where
    starts : (t : Bool) → ltb from at ≡ t → start ≡ cond {A = ℕ} t (at - 1) at →
        (from ≤ start) × ((start ≤ at) × (start - from ≤ (at - from) - 1))
    starts true e z = let f = ltb-true from at e in (omega arith, (omega arith, omega arith))
    starts false e z = let f = ltb-false from at e in (omega arith, (omega arith, omega arith))

    stops : (t : Bool) → ltb at to ≡ t → stop ≡ cond {A = ℕ} t (at + 1) at →
        (at ≤ stop) × ((stop ≤ to) × (min (at + 1) to ≤ stop))
    stops true e z = let f = ltb-true at to e in (omega arith, (omega arith, omega arith))
    stops false e z = let f = ltb-false at to e in (omega arith, (omega arith, omega arith))

-- the indices among the words from `from` on
above_from :
    (from at to stop k n : ℕ) → at - from ≡ k → n ≡ to - from → from ≤ at → min (at + 1) to ≤ stop
    → min (k + 1) n ≤ stop - from
above_from from at to stop k n a b c d = omega arith

module _
    (w : List ℕ) (book : T (is_book w)) (c m : ℕ) (o : T (is_class_open c (facts_of w).classes)) (from to : ℕ)
    (begins : from ≡ strikes_place c m (facts_of w)) (ends : to ≡ strikes_end c m (facts_of w)) where
  abbrev lent_words : List ℕ
  lent_words = take (to - from) (drop from w)

  abbrev here : List Series
  here = in_month m (class (facts_of w) c).series

  pub standing_words : map standing_of lent_words ≡ standing_in (view_of c (facts_of w)) m
  standing_words =
      let b = book_facts w book in
      (λ i. map standing_of (take (ends i - begins i) (drop (begins i) (sym b.1 i))))
      ∙ strikes_standing (length w) (facts_of w) c m b.0 o

  strikes_are : map strike_in lent_words ≡ map strike_of here
  strikes_are =
      sym (map-map (λ (t : Standing). t.strike) standing_of lent_words)
      ∙ ap (map (λ (t : Standing). t.strike)) standing_words
      ∙ map-map (λ (t : Standing). t.strike) (λ s. record { strike = s.strike; on_ground = s.on_ground }) here

  pub strikes_rising : Rising (map strike_in lent_words)
  strikes_rising =
      let good = series_good (length w) (facts_of w) c (book_facts w book).0 o in
      rw strikes_are (strikes_rise (class (facts_of w) c).series m 0 (facts_of w).now good)

module _
    (w : List ℕ) (book : T (is_book w)) (c m : ℕ) (o : T (is_class_open c (facts_of w).classes)) (h : ℕ)
    (absent : is_standing (view_of c (facts_of w)) m h ≡ false) where
  abbrev from : ℕ
  from = strikes_place c m (facts_of w)

  abbrev to : ℕ
  to = strikes_end c m (facts_of w)

  abbrev words : List ℕ
  words = take (to - from) (drop from w)

  abbrev series : List Series
  series = (class (facts_of w) c).series

  abbrev lower : List ℕ
  lower = map strike_of (low series m h)

  abbrev higher : List ℕ
  higher = map strike_of (high series m h)

  sides : map strike_in words ≡ lower ++ higher
  sides =
      let none : placed series m h ≡ [] =
      only_both (is_equal month_of m) (is_equal strike_of h) series ∙ only_absent (is_at m h) series (rw absent tt) in
      strikes_are w book c m o from to refl refl
      ∙ ap (map strike_of)
      (strike_parts series m h (facts_of w).now (series_good (length w) (facts_of w) c (book_facts w book).0 o)
      ∙ ap (λ (l : List Series). low series m h ++ (l ++ high series m h)) none)
      ∙ map-append strike_of (low series m h) (high series m h)

  all : length words ≡ length lower + length higher
  all = sym (length-map words strike_in) ∙ ap length sides ∙ length-append lower higher

  strike_at : (i : ℕ) → strike_in (get_or words i 0) ≡ get_or (lower ++ higher) i 0
  strike_at i = sym (get_or-map strike_in words i 0) ∙ ap (λ (l : List ℕ). get_or l i 0) sides

  under : (i : ℕ) → i < length lower → strike_in (get_or words i 0) < h
  under i l =
      rw (strike_at i, get_or-append lower higher 0 i l)
      (ltb→lt (get_or lower i 0) h
      (every_at (λ x. ltb x h) 0 lower i l
      (rw (every_mapped (λ x. ltb x h) strike_of (low series m h))
      (every_kept (is_under strike_of h) (in_month m series)))))

  over : (i : ℕ) → length lower ≤ i → i < length words → h < strike_in (get_or words i 0)
  over i l k =
      let j : ℕ = i - length lower in
      let e : i ≡ length lower + j = omega arith in
      rw (strike_at i, e, get_or-append-add lower higher j 0)
      (ltb→lt h (get_or higher j 0)
      (every_at (λ x. ltb h x) 0 higher j (omega (arith, all))
      (rw (every_mapped (λ x. ltb h x) strike_of (high series m h))
      (every_kept (is_over strike_of h) (in_month m series)))))

  -- the strikes next to its place are all that bear on h
  pub judged_beside : (s : Setting) (at start stop : ℕ) → at ≡ strike_place c m h (facts_of w) →
      start ≡ cond {A = ℕ} (has_expiration c m (facts_of w) && is_strike_at w (at - 1)) (at - 1) at →
      stop ≡ cond {A = ℕ} (is_strike_at w at) (at + 1) at →
      judgement s (map standing_of (take (stop - start) (drop start w))) h
      ≡ judgement s (standing_in (view_of c (facts_of w)) m) h
  judged_beside s at start stop place first last =
      let size : length words ≡ to - from =
      omega (
        arith,
        length-map words strike_in,
        ap length (strikes_are w book c m o from to refl refl),
        length-map (in_month m series) strike_of,
      ) in
      let behind : at - from ≡ length lower = omega (arith, length-map (low series m h) strike_of) in
      let least : from ≤ at = omega arith in
      let most : at ≤ to = omega (arith, all) in
      let part : LentPart from at to start stop =
      lent_part least most
      (first ∙ ap (λ (b : Bool). cond {A = ℕ} b (at - 1) at) (strike_below w book c m o at least most))
      (last ∙ ap (λ (b : Bool). cond {A = ℕ} b (at + 1) at) (strike_there w book c m o at least most)) in
      ap (λ (l : List ℕ). judgement s (map standing_of l) h)
      (sym (part_part w from start stop to part.begins part.order part.ends))
      ∙ nearest_judged s
      record {
        rising = strikes_rising w book c m o from to refl refl;
        within = omega (arith, all);
        under = under;
        over = over;
        start = rw behind at part.below;
        stop = above_from from at to stop (length lower) (length words) behind size least part.above;
      }
      ∙ ap (λ (standing : List Standing). judgement s standing h) (standing_words w book c m o from to refl refl)
