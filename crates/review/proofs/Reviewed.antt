-- The review by the bounds of the marked strikes is the review of document 01: a test of the bounds asks of each marked
-- strike what the sentence asks, whichever comes first. Assumes nothing.
use Prim.Native.Nat.{ℕ, suc, ◌+◌, ◌^◌, ◌≤◌, ◌<◌}
use mathlib.Core.Path.{◌≡◌, refl, sym, ap, ◌∙◌}
use mathlib.Core.Bool.{Bool, true, false, not, ◌&&◌, ◌||◌, and-true, and-false, and_assoc, and_comm}
use mathlib.Core.List.{List, [], ◌∷◌, ◌++◌, reverse, reverse-cons}
use mathlib.Core.Logic.{inl, inr}
use native.Mathlib.Omega.{arith}
use native.Mathlib.Numerals.{add-one}
use lib.Dec.{T, eqb, leb, ltb, leb→le, le→leb, ltb→lt, lt→ltb}
use borrow.Author.Tests.{le-leb, lt-ltb}
use Rattle.logic.specs.Lists.{every, only}
use Rattle.word.specs.Limits.{highest_strike, cents}
use Rattle.word.specs.Kinds.{strike_kind}
use Rattle.word.specs.Grounds.{dollar_ground, wing_ground}
use Rattle.rule.specs.Terms.{apart}
use Rattle.book.specs.Facts.{Series, OpenClass, is_marked}
use Rattle.book.specs.Books.{is_series}
use Rattle.book.specs.Views.{is_beyond_marked, review_distance, is_reviewed}
use Rattle.logic.proofs.Tests.{ands, same_bool, or_cases, or_left, or_right, leb_max, ltb_min, lt_or_le}
use Rattle.logic.proofs.Parts.{only_append}
use Rattle.review.specs.declared.marks.Bounds.{Bounds}
use Rattle.review.specs.Marks.{none_marked, widened, is_beyond, near_strikes, stays, marked_in, widened_by, bounds_of}

-- ---- the bounds

-- a test q of bounds, of which each strike asks p
widened_law :
    (q : Bounds → Bool) (p : ℕ → Bool) → ((b : Bounds) (h : ℕ) → q (widened b h) ≡ (q b && p h)) → (b : Bounds)
    (ss : List Series) → q (widened_by b ss) ≡ (q b && every (λ t. p t.strike) ss)
widened_law q p one b [] = sym (and-true (q b))
widened_law q p one b (s ∷ ss) =
    let each = every (λ t. p t.strike) ss in
    widened_law q p one (widened b s.strike) ss
    ∙ ap (λ (t : Bool). t && each) (one b s.strike)
    ∙ and_assoc (q b) (p s.strike) each

-- beyond all
beyond :
    (h : ℕ) (ss : List Series) → h < 2 ^ strike_kind.width
    → is_beyond (widened_by none_marked ss) h
    ≡ (every (λ t. ltb t.strike h) ss || every (λ t. ltb h t.strike) ss)
beyond h ss l =
    let above =
    widened_law (λ b. leb b.above h) (λ k. ltb k h)
    (λ b k. leb_max b.above (k + 1) h ∙ rw add-one) none_marked ss
    ∙ ap (λ (t : Bool). t && every (λ t. ltb t.strike h) ss) (le-leb 0 h (omega arith)) in
    let below =
    widened_law (λ b. ltb h b.lowest) (λ k. ltb h k)
    (λ b k. ltb_min k b.lowest h ∙ and_comm (ltb h k) (ltb h b.lowest)) none_marked ss
    ∙ ap (λ (t : Bool). t && every (λ t. ltb h t.strike) ss) (lt-ltb h (2 ^ strike_kind.width) l) in
    λ i. above i || below i

-- ---- from the last down

every_joined :
    (p : Series → Bool) (ss ts : List Series) → every p (ss ++ ts) ≡ (every p ss && every p ts)
every_joined p [] ts = refl
every_joined p (s ∷ ss) ts =
    ap (λ (b : Bool). p s && b) (every_joined p ss ts) ∙ sym (and_assoc (p s) (every p ss) (every p ts))

every_down : (p f : Series → Bool) (ss : List Series) → every p (only f (reverse ss)) ≡ every p (only f ss)
every_down p f [] = refl
every_down p f (s ∷ ss) =
    let one = only f (s ∷ []) in
    ap (λ (l : List Series). every p (only f l)) (reverse-cons s ss)
    ∙ ap (every p) (only_append f (reverse ss) (s ∷ []))
    ∙ every_joined p (only f (reverse ss)) one
    ∙ ap (λ (b : Bool). b && every p one) (every_down p f ss)
    ∙ and_comm (every p (only f ss)) (every p one)
    ∙ sym (every_joined p one (only f ss))
    ∙ ap (every p) (sym (only_append f (s ∷ []) ss))

-- ---- the review

regroup : (g f m z : Bool) → ((g && m) && (f && z)) ≡ (g && (f && (m && z)))
regroup true true m z = refl
regroup true false m z = and-false m
regroup false f m z = refl

-- beyond the strikes near the close: farther from it
module _ (h close : ℕ) where
  abbrev near : Bounds
  near = near_strikes close

  abbrev distance : ℕ
  distance = apart (cents h) close

  far_is : is_beyond near h ≡ ltb review_distance distance
  far_is =
      same_bool (is_beyond near h) (ltb review_distance distance)
      (λ t. elim (or_cases (leb near.above h) (ltb h near.lowest) t) [
        | inl a ↦ let l = leb→le near.above h a in lt→ltb review_distance distance (omega arith)
        | inr b ↦ let l = ltb→lt h near.lowest b in lt→ltb review_distance distance (omega arith)
      ])
      (λ t.
      let l = ltb→lt review_distance distance t in
      elim (lt_or_le close (cents h)) [
        | inl a ↦ or_left (leb near.above h) (ltb h near.lowest) (le→leb near.above h (omega arith))
        | inr b ↦ or_right (leb near.above h) (ltb h near.lowest) (lt→ltb h near.lowest (omega arith))
      ])

-- a series of the class stays by the bounds exactly where the review does not remove it
pub agrees :
    (now : ℕ) (x : OpenClass) (s : Series) → T (is_series now s)
    → stays (near_strikes x.figures.close) (bounds_of x.series (suc s.month)) s.strike s.on_ground s.put
    s.call
    ≡ not (is_reviewed x s)
agrees now x s u =
    let l : s.strike ≤ highest_strike = leb→le s.strike highest_strike (search ands) in
    let close = x.figures.close in
    let on_ground = eqb s.on_ground dollar_ground || eqb s.on_ground wing_ground in
    let test : Series → Bool = λ t. eqb t.month s.month && is_marked t in
    (λ i.
    not ((on_ground && not (is_marked s))
    && (far_is s.strike close i
    && beyond s.strike (marked_in s.month (reverse x.series)) (omega arith) i)))
    ∙ (λ i.
    not ((on_ground && not (is_marked s))
    && (ltb review_distance (apart (cents s.strike) close)
    && (every_down (λ t. ltb t.strike s.strike) test x.series i
    || every_down (λ t. ltb s.strike t.strike) test x.series i))))
    ∙ ap not
    (regroup on_ground (ltb review_distance (apart (cents s.strike) close)) (not (is_marked s))
    (is_beyond_marked s x.series))
