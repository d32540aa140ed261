-- The last expiration of series, from their words, read from the end: how many strikes it has, and the bounds of the
-- marked ones. By induction on the series, the last first. Assumes nothing.
use Prim.Native.Nat.{ℕ, suc, ◌+◌, ◌≤◌, ◌<◌}
use mathlib.Core.Path.{◌≡◌, refl, sym, ap, ◌∙◌, subst}
use mathlib.Core.Bool.{Bool, true, false, cond, ◌&&◌}
use mathlib.Core.List.{List, [], ◌∷◌, ◌++◌, reverse, reverse-cons, reverse-append, reverse-reverse}
use native.Mathlib.Omega.{arith}
use lib.Dec.{eqb}
use borrow.Author.Tests.{eqb-true, eqb-false, eq-eqb, ne_eqb}
use Rattle.logic.proofs.Parts.{only_append}
use Rattle.word.specs.Codec.{Expiration, packed}
use Rattle.book.specs.Facts.{Series, is_marked}
use Rattle.book.specs.Layout.{strike_word}
use Rattle.book.proofs.LegalWords.{strike_legal, month_legal}
use Rattle.review.specs.declared.marks.Bounds.{Bounds}
use Rattle.review.specs.ReviewSteps.{words_of_series}
use Rattle.review.specs.Marks.{none_marked, widened, with_strike, bounds_in, strikes_in, standing, count_of, marked_in, widened_by, bounds_of}
use Rattle.review.proofs.Said.{said_packed}
use Rattle.review.proofs.PlacedSeries.{Placed, AllPlaced, placed_parts, count_earlier, count_joined, standing_last, expiration_of, words_last}

module _ (now : ℕ) where
  -- down: the series in falling order
  unfolded :
      (s : Series) (down : List Series) → AllPlaced now 0 (reverse (s ∷ down))
      → AllPlaced now 0 (reverse down) × Placed now (standing 0 (reverse down)) s
  unfolded s down a =
      let r = placed_parts now 0 (reverse down) (s ∷ []) (rw reverse-cons at a) in
      (r.0, r.1.0)

  standing_first : (s : Series) (down : List Series) → standing 0 (reverse (s ∷ down)) ≡ suc s.month
  standing_first s down = ap (standing 0) (reverse-cons s down) ∙ standing_last 0 (reverse down) s

  -- whether the expiration of s stands before it
  abbrev stood : Series → List Series → Bool
  stood s down = eqb (standing 0 (reverse down)) (suc s.month)

  -- the words from the end: the strike's first, then its expiration's, where s is the lowest of it
  words_down :
      (s : Series) (down : List Series)
      → reverse (words_of_series (reverse (s ∷ down)))
      ≡ packed (strike_word s) ∷ (reverse (expiration_of (stood s down) s) ++ reverse (words_of_series (reverse down)))
  words_down s down =
      let e = expiration_of (stood s down) s in
      ap (λ (l : List Series). reverse (words_of_series l)) (reverse-cons s down)
      ∙ ap (λ (l : List ℕ). reverse l) (words_last (reverse down) s)
      ∙ reverse-append (words_of_series (reverse down)) (e ++ (packed (strike_word s) ∷ []))
      ∙ ap (λ (l : List ℕ). l ++ reverse (words_of_series (reverse down)))
      (reverse-append e (packed (strike_word s) ∷ []))

  -- ---- how many strikes it has

  count_down :
      (down : List Series) → AllPlaced now 0 (reverse down)
      → strikes_in (reverse (words_of_series (reverse down))) ≡ count_of (standing 0 (reverse down)) (reverse down)
  count_down [] a = refl
  count_down (s ∷ down) a =
      ap strikes_in (words_down s down)
      ∙ go (stood s down) refl (count_down down u.0)
      ∙ sym
      (ap (λ (p : ℕ). count_of p (reverse (s ∷ down))) (standing_first s down)
      ∙ ap (count_of (suc s.month)) (reverse-cons s down)
      ∙ count_joined (suc s.month) (reverse down) (s ∷ []))
    where
      u : AllPlaced now 0 (reverse down) × Placed now (standing 0 (reverse down)) s
      u = unfolded s down a

      go :
          (b : Bool) → stood s down ≡ b
          → strikes_in (reverse (words_of_series (reverse down))) ≡ count_of (standing 0 (reverse down)) (reverse down)
          → strikes_in
          (packed (strike_word s) ∷ (reverse (expiration_of b s) ++ reverse (words_of_series (reverse down))))
          ≡ count_of (suc s.month) (reverse down) + count_of (suc s.month) (s ∷ [])
      go true e ih =
          let q = eqb-true (standing 0 (reverse down)) (suc s.month) e in
          rw (
            said_packed (strike_word s) (strike_legal now s u.1.limits),
            eq-eqb (suc s.month) (suc s.month) refl,
          )
          (omega (arith, ih ∙ ap (λ (p : ℕ). count_of p (reverse down)) q))
      go false e ih =
          let o = u.1.order in
          let n = eqb-false (standing 0 (reverse down)) (suc s.month) e in
          let l : standing 0 (reverse down) ≤ s.month = omega (arith, n) in
          rw (
            said_packed (strike_word s) (strike_legal now s u.1.limits),
            said_packed (Expiration s.month) (month_legal now s u.1.limits),
            eq-eqb (suc s.month) (suc s.month) refl,
            count_earlier now s.month 0 (reverse down) u.0 l,
          )

  pub count_is :
      (low : List Series) → AllPlaced now 0 low
      → strikes_in (reverse (words_of_series low)) ≡ count_of (standing 0 low) low
  count_is low a =
      let e = reverse-reverse low in
      subst (λ (l : List Series). strikes_in (reverse (words_of_series l)) ≡ count_of (standing 0 l) l) e
      (count_down (reverse low) (rw e a))

  -- ---- the bounds of its marked strikes

  none_earlier :
      (month : ℕ) (down : List Series) → AllPlaced now 0 (reverse down) → standing 0 (reverse down) ≤ month
      → marked_in month down ≡ []
  none_earlier month [] a l = refl
  none_earlier month (s ∷ down) a l =
      let u = unfolded s down a in
      let o = u.1.order in
      let f = standing_first s down in
      rw (ne_eqb s.month month (λ q. omega arith)) (none_earlier month down u.0 (omega arith))

  -- the marked ones of the last expiration
  abbrev marked_last : List Series → List Series
  marked_last [] = []
  marked_last (s ∷ down) = marked_in s.month (s ∷ down)

  same_last : (s : Series) (down : List Series) → stood s down ≡ true → marked_last down ≡ marked_in s.month down
  same_last s [] e = refl
  same_last s (t ∷ down) e =
      let f = standing_first t down in
      let q = eqb-true (standing 0 (reverse (t ∷ down))) (suc s.month) e in
      let same : t.month ≡ s.month = omega arith in
      ap (λ (i : ℕ). marked_in i (t ∷ down)) same

  bounds_down :
      (b : Bounds) (down : List Series) → AllPlaced now 0 (reverse down)
      → bounds_in b (reverse (words_of_series (reverse down))) ≡ widened_by b (marked_last down)
  bounds_down b [] a = refl
  bounds_down b (s ∷ down) a =
      ap (bounds_in b) (words_down s down)
      ∙ go (stood s down) refl (bounds_down (with_strike b s.strike s.put s.call) down u.0)
    where
      u : AllPlaced now 0 (reverse down) × Placed now (standing 0 (reverse down)) s
      u = unfolded s down a

      counted :
          (m : Bool) (l : List Series) → widened_by (cond m (widened b s.strike) b) l ≡ widened_by b (cond m (s ∷ l) l)
      counted true l = refl
      counted false l = refl

      go :
          (c : Bool) → stood s down ≡ c
          → bounds_in (with_strike b s.strike s.put s.call) (reverse (words_of_series (reverse down)))
          ≡ widened_by (with_strike b s.strike s.put s.call) (marked_last down)
          → bounds_in b (packed (strike_word s)
          ∷ (reverse (expiration_of c s) ++ reverse (words_of_series (reverse down))))
          ≡ widened_by b (marked_in s.month (s ∷ down))
      go true e ih =
          rw (said_packed (strike_word s) (strike_legal now s u.1.limits), eq-eqb s.month s.month refl)
          (ih
          ∙ ap (widened_by (with_strike b s.strike s.put s.call)) (same_last s down e)
          ∙ counted (is_marked s) (marked_in s.month down))
      go false e ih =
          let o = u.1.order in
          let n = eqb-false (standing 0 (reverse down)) (suc s.month) e in
          let l : standing 0 (reverse down) ≤ s.month = omega (arith, n) in
          rw (
            said_packed (strike_word s) (strike_legal now s u.1.limits),
            said_packed (Expiration s.month) (month_legal now s u.1.limits),
            eq-eqb s.month s.month refl,
            none_earlier s.month down u.0 l,
          )
          (counted (is_marked s) [])

  none_later : (month p : ℕ) (ss : List Series) → suc month < p → AllPlaced now p ss → marked_in month (reverse ss) ≡ []
  none_later month p [] l a = refl
  none_later month p (s ∷ ss) l a =
      let o = a.0.order in
      ap (marked_in month) (reverse-cons s ss)
      ∙ only_append (λ t. eqb t.month month && is_marked t) (reverse ss) (s ∷ [])
      ∙ (λ i. none_later month (suc s.month) ss (omega arith) a.1 i
      ++ cond (ne_eqb s.month month (λ q. omega arith) i && is_marked s) (s ∷ []) [])

  -- the words of `low` end with the strikes of one expiration, and `rest` has none of it
  pub bounds_are :
      (low rest : List Series) (q : ℕ) → AllPlaced now 0 low → standing 0 low < q → AllPlaced now q rest
      → bounds_in none_marked (reverse (words_of_series low)) ≡ bounds_of (low ++ rest) (standing 0 low)
  bounds_are low rest q a l r =
      let e = reverse-reverse low in
      subst
      (λ (l : List Series). bounds_in none_marked (reverse (words_of_series l))
      ≡ bounds_of (l ++ rest) (standing 0 l)) e
      (bounds_down none_marked (reverse low) (rw e a) ∙ go (reverse low) (rw e l))
    where
      go :
          (down : List Series) → standing 0 (reverse down) < q
          → widened_by none_marked (marked_last down) ≡ bounds_of (reverse down ++ rest) (standing 0 (reverse down))
      go [] l = refl
      go (s ∷ down) l =
          let m = s.month in
          let test : Series → Bool = λ t. eqb t.month m && is_marked t in
          let f = standing_first s down in
          let parts : marked_in m (reverse (reverse (s ∷ down) ++ rest)) ≡ marked_in m (s ∷ down) =
          ap (marked_in m) (reverse-append (reverse (s ∷ down)) rest)
          ∙ only_append test (reverse rest) (reverse (reverse (s ∷ down)))
          ∙ (λ i. none_later m q rest (omega arith) r i ++ marked_in m (reverse-reverse (s ∷ down) i)) in
          ap (widened_by none_marked) (sym parts) ∙ ap (bounds_of (reverse (s ∷ down) ++ rest)) (sym f)
