-- #102's claim about steps of the review, said of any class: the strikes below keep their words and places, no step
-- changes what the review removes, all steps are the review, and after each of them, the free words closed up, the run
-- is a book. From the laws of the n highest strikes. Assumes nothing.
use Prim.Native.Nat.{ℕ, ◌-◌, ◌<◌, ◌≤◌}
use mathlib.Core.Path.{◌≡◌, refl, sym, ap, ◌∙◌}
use mathlib.Core.Bool.{Bool, true, false, not, ◌&&◌, ◌||◌, and-false}
use mathlib.Core.List.{List, ◌++◌}
use native.Mathlib.Omega.{arith}
use lib.Dec.{T, eqb, ltb}
use lib.ListN.{length, get_or, take, drop, take-append-drop, get_or-append}
use Rattle.logic.specs.Lists.{every}
use Rattle.logic.proofs.Tests.{ands}
use Rattle.logic.proofs.Lists.{every_true, only_same}
use Rattle.logic.proofs.Parts.{only_both}
use Rattle.word.specs.Limits.{is_class_number, cents}
use Rattle.word.specs.Grounds.{dollar_ground, wing_ground}
use Rattle.rule.specs.Terms.{apart}
use Rattle.book.specs.Facts.{Series, OpenClass, Facts, number, is_class_open, is_marked, with_series}
use Rattle.book.specs.Layout.{layout, facts_of}
use Rattle.book.specs.Books.{is_class, is_book}
use Rattle.book.specs.Views.{class, marked_with, is_beyond_marked, review_distance, is_reviewed}
use Rattle.book.specs.Changes.{update, class_reviewed, reviewed_count}
use Rattle.book.proofs.Forms.{well, well_formed}
use Rattle.book.proofs.Layouts.{facts_of_layout, book_layout}
use Rattle.book.proofs.ClassLaws.{number_of}
use Rattle.book.proofs.ClassWords.{class_good}
use Rattle.book.proofs.Keep.{keep_only}
use Rattle.place.proofs.Heads.{book_good}
use Rattle.review.specs.ReviewSteps.{is_highest, is_gone, after_steps, gone_count, below, words_of_series, words_after}
use Rattle.review.proofs.PlacedSeries.{words_behind, words_joined}
use Rattle.review.proofs.StepTaken.{left, gone}
use Rattle.review.proofs.HighestSeries.{high, below_is, after_is, gone_is}

module _ (now : ℕ) (x : OpenClass) (t : T (is_class now x)) (n : ℕ) where
  -- "its strikes below them keep their words and places"
  pub places_kept :
      (i : ℕ) → i < length (words_of_series (below n x))
      → get_or (words_after n x) i 0 ≡ get_or (words_of_series x.series) i 0
  unfolding words_after
  places_kept i l =
      let first = words_of_series (below n x) in
      let rest = words_behind (below n x) (high now x t n) in
      let parts : words_of_series x.series ≡ first ++ rest =
      ap words_of_series (sym (take-append-drop (length x.series - n) x.series))
      ∙ ap (λ (ss : List Series). words_of_series (ss ++ high now x t n)) (sym (below_is now x t n))
      ∙ words_joined (below n x) (high now x t n) in
      get_or-append first _ 0 i l
      ∙ sym (ap (λ (ws : List ℕ). get_or ws i 0) parts ∙ get_or-append first rest 0 i l)

  -- after all steps the class is as `R` leaves it
  module _ (all : length x.series ≤ n) where
    none_below : length x.series - n ≡ 0
    none_below = omega arith

    pub all_gone : gone_count n x ≡ reviewed_count x
    unfolding reviewed_count
    all_gone =
        ap length (gone_is now x t n) ∙ ap (λ (i : ℕ). length (gone x (drop i x.series))) none_below

    pub all_reviewed : after_steps n x ≡ class_reviewed x
    all_reviewed =
        ap (λ (ss : List Series). with_series ss x)
        (after_is now x t n ∙ ap (λ (i : ℕ). take i x.series ++ left x (drop i x.series)) none_below)

-- marked strikes stay, so that the review removes of the class after n steps what it removes of the class as it was
module _ (n : ℕ) (x : OpenClass) where
  marked_stay : (s : Series) → marked_with s (after_steps n x).series ≡ marked_with s x.series
  marked_stay s =
      let test : Series → Bool = λ t. eqb t.month s.month && is_marked t in
      only_both (λ t. not (is_gone n x t)) test x.series
      ∙ only_same (λ t. true) (λ t. not (is_gone n x t) && test t) test
      (λ t u.
      go (is_highest n x t) (eqb t.on_ground dollar_ground || eqb t.on_ground wing_ground)
      (ltb review_distance (apart (cents t.strike) x.figures.close))
      (is_beyond_marked t x.series) (eqb t.month s.month) (is_marked t))
      x.series (every_true x.series)
    where
      go : (h g d z a m : Bool) → (not (h && (g && (d && (not m && z)))) && (a && m)) ≡ (a && m)
      go h g d z false m = and-false (not (h && (g && (d && (not m && z)))))
      go h g d z true false = and-false (not (h && (g && (d && z))))
      go false g d z true true = refl
      go true false d z true true = refl
      go true true false z true true = refl
      go true true true z true true = refl

  pub judged_alike : (s : Series) → is_reviewed (after_steps n x) s ≡ is_reviewed x s
  judged_alike s =
      ap (λ (ts : List Series).
      (eqb s.on_ground dollar_ground || eqb s.on_ground wing_ground)
      && (ltb review_distance (apart (cents s.strike) x.figures.close)
      && (not (is_marked s)
      && (every (λ t. ltb t.strike s.strike) ts || every (λ t. ltb s.strike t.strike) ts))))
      (marked_stay s)

-- n steps and one closing of the gap leave a book, whose facts are the class less those of its n highest strikes that
-- the review removes
module _ (ws : List ℕ) (t : T (is_book ws)) (c : ℕ) (o : T (is_class_open c (facts_of ws).classes)) (n : ℕ) where
  abbrev after : Facts
  after = update (after_steps n (class (facts_of ws) c)) (facts_of ws)

  pub steps_book : T (is_book (layout (length ws) after)) × (facts_of (layout (length ws) after) ≡ after)
  steps_book =
      let f = facts_of ws in
      let x = class f c in
      let good = book_good ws t in
      let limits = class_good (length ws) f c good o in
      let number : T (is_class_number c) = rw (number_of c f.classes) at (class_number x limits) in
      let kept =
      well_formed (length ws) after
      (keep_only (length ws) f c (well (length ws) f good) number (opened (is_class_open c f.classes) o)
      (λ s. not (is_gone n x s))) in
      (book_layout (length ws) after kept, facts_of_layout (length ws) after kept)
    where
      class_number : (y : OpenClass) → T (is_class (facts_of ws).now y) → T (is_class_number (number y))
      class_number y u = search ands

      opened : (b : Bool) → T b → T (not (not b))
      opened true u = u
      opened false u = u
